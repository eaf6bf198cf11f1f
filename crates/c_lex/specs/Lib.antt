pub mod Bytes
pub mod Piece
pub mod Tokens
