-- One step of a thread of the source: what its first item does to the values of the variables and locks, and how it goes on.
use Rattle.std.specs.Prelude.{◌≡◌, ◌⊎◌, ℕ, ◌+◌, ℤ, pos, ◌+ℤ◌, ◌-ℤ◌, ◌*ℤ◌, neg_ℤ, Bool, not, List, slice_index_or, slice_set, int_lt, int_le, MatchBool, Option, Some, None}
use Rattle.std.specs.Ordering.{int_eq}
use Rattle.c_check.specs.declared.meaning.Variable.{Variable}
use Rattle.c_check.specs.declared.meaning.Variable.TheVariants as variable
use Rattle.c_check.specs.declared.operation.Mark.{Mark}
use Rattle.c_check.specs.declared.operation.Mark.TheVariants as mark
use Rattle.c_check.specs.Plan.{Arithmetic}
use Rattle.c_check.specs.Items.{Comparison, Item, Items, Side, joined, unrolled}

-- ---- values: one for each column, of which no step of the source reads or writes a counter

-- What a thread is to the values that all threads have: its number, from 1, the column of the first of its own variables, and how
-- many variables all threads share. Behind these stand the locks.
pub record Frame : Type 0 where
  pub thread : ℕ
  pub first : ℕ
  pub variables : ℕ

-- the column of a variable
abbrev pub column_of : Frame → Variable → ℕ
column_of frame (variable.Shared n) = n
column_of frame (variable.Own n) = frame.first + n

-- the column of the n-th lock
abbrev pub lock_column : Frame → ℕ → ℕ
lock_column frame n = frame.variables + n

-- the value of a column
abbrev pub value_at : List ℤ → ℕ → ℤ
value_at values c = slice_index_or values c (pos 0)

-- what an expression is worth, over unbounded integers
abbrev pub value : Frame → List ℤ → Arithmetic → ℤ
value frame values (Arithmetic.Number k) = k
value frame values (Arithmetic.Value v) = value_at values (column_of frame v)
value frame values (Arithmetic.Negated a) = neg_ℤ (value frame values a)
value frame values (Arithmetic.Sum a b) = value frame values a +ℤ value frame values b
value frame values (Arithmetic.Difference a b) = value frame values a -ℤ value frame values b
value frame values (Arithmetic.Product a b) = value frame values a *ℤ value frame values b

-- what a mark says of two numbers
abbrev pub compared : Mark → ℤ → ℤ → Bool
compared mark.Equal x y = int_eq x y
compared mark.Unequal x y = not (int_eq x y)
compared mark.Less x y = int_lt x y
compared mark.AtMost x y = int_le x y
compared mark.Greater x y = int_lt y x
compared mark.AtLeast x y = int_le y x

-- the comparison is true of these values
abbrev pub is_true : Frame → List ℤ → Comparison → Bool
is_true frame values c = compared c.mark (value frame values c.left) (value frame values c.right)

-- the values with a variable set
abbrev pub with_value : Frame → List ℤ → Variable → ℤ → List ℤ
with_value frame values v k = slice_set values (column_of frame v) k

-- ---- how a thread stands

-- what a thread has left to do
pub data Standing : Type 0 where
  -- it has these items to do
  Doing : Items → Standing
  Failed : Standing

-- a side is gone to, with the rest of the items behind it; to `none` nothing goes
abbrev pub gone : Side → Items → Option Standing
gone (Side.Goes is) rest = Some (Standing.Doing (joined is rest))
gone Side.Failed rest = Some Standing.Failed
gone Side.Nowhere rest = None

-- what stands behind the innermost loop
abbrev pub behind_loop : Items → Items
behind_loop Items.End = Items.End
behind_loop (Items.Then (Item.Again g body last) rest) = rest
behind_loop (Items.Then _ rest) = behind_loop rest

-- a loop that is come to, or come to again, is read as the branch of its guard, without a step
abbrev pub read_as : Items → Items
read_as (Items.Then (Item.Loop g body last) rest) = joined (unrolled g body last) rest
read_as (Items.Then (Item.Again g body last) rest) = joined (unrolled g body last) rest
read_as is = is

-- ---- ways through the items of an atomic body

-- how a way ends
pub data WayEnd : Type 0 where
  -- all items were done
  Through : WayEnd
  -- an assertion was false
  Fails : WayEnd

-- From these values a way goes through the items to the values after, and ends so. It takes of each comparison the side that its
-- truth names, of each choice either; to the false side of an assumption none goes. What may not stand in an atomic body has none.
abbrev mutual
  -- through all items
  pub IsWay : Frame → List ℤ → Items → List ℤ → WayEnd → Type 0
  IsWay frame values Items.End after end = (after ≡ values) × (end ≡ WayEnd.Through)
  IsWay frame values (Items.Then item rest) after end =
      ((between : List ℤ) × IsItemWay frame values item between WayEnd.Through × IsWay frame between rest after end)
      ⊎ (IsItemWay frame values item after WayEnd.Fails × (end ≡ WayEnd.Fails))

  -- through one item
  pub IsItemWay : Frame → List ℤ → Item → List ℤ → WayEnd → Type 0
  IsItemWay frame values (Item.Read t v) after end = (after ≡ with_value frame values t (value_at values (column_of frame v))) × (end ≡ WayEnd.Through)
  IsItemWay frame values (Item.Assign v e) after end = (after ≡ with_value frame values v (value frame values e)) × (end ≡ WayEnd.Through)
  IsItemWay frame values (Item.AssignAny v) after end = (k : ℤ) × (after ≡ with_value frame values v k) × (end ≡ WayEnd.Through)
  IsItemWay frame values (Item.Branch None t f) after end = IsSideWay frame values t after end ⊎ IsSideWay frame values f after end
  IsItemWay frame values (Item.Branch (Some c) t f) after end =
      MatchBool (is_true frame values c) (IsSideWay frame values t after end) (IsSideWay frame values f after end)
  IsItemWay frame values (Item.Lock n) after end = ⊥
  IsItemWay frame values (Item.Unlock n) after end = ⊥
  IsItemWay frame values (Item.Loop g body last) after end = ⊥
  IsItemWay frame values (Item.Again g body last) after end = ⊥
  IsItemWay frame values Item.Break after end = ⊥
  IsItemWay frame values Item.Exit after end = ⊥
  IsItemWay frame values (Item.Atomic inner) after end = ⊥

  -- through a side of a branch
  pub IsSideWay : Frame → List ℤ → Side → List ℤ → WayEnd → Type 0
  IsSideWay frame values (Side.Goes is) after end = IsWay frame values is after end
  IsSideWay frame values Side.Failed after end = (after ≡ values) × (end ≡ WayEnd.Fails)
  IsSideWay frame values Side.Nowhere after end = ⊥

-- how a thread stands behind an atomic body
abbrev pub behind_way : WayEnd → Items → Standing
behind_way WayEnd.Through rest = Standing.Doing rest
behind_way WayEnd.Fails rest = Standing.Failed

-- ---- steps

-- The first item, with the rest behind it, does this: it leads from the values to the values after, and the thread stands so.
abbrev pub Does : Frame → List ℤ → Item → Items → List ℤ → Standing → Type 0
Does frame values (Item.Read t v) rest after next =
    (after ≡ with_value frame values t (value_at values (column_of frame v))) × (next ≡ Standing.Doing rest)
Does frame values (Item.Assign v e) rest after next = (after ≡ with_value frame values v (value frame values e)) × (next ≡ Standing.Doing rest)
Does frame values (Item.AssignAny v) rest after next = (k : ℤ) × (after ≡ with_value frame values v k) × (next ≡ Standing.Doing rest)
Does frame values (Item.Branch None t f) rest after next = (after ≡ values) × ((gone t rest ≡ Some next) ⊎ (gone f rest ≡ Some next))
Does frame values (Item.Branch (Some c) t f) rest after next =
    (after ≡ values) × MatchBool (is_true frame values c) (gone t rest ≡ Some next) (gone f rest ≡ Some next)
Does frame values (Item.Lock n) rest after next =
    (value_at values (lock_column frame n) ≡ pos 0) × (after ≡ slice_set values (lock_column frame n) (pos frame.thread)) × (next ≡ Standing.Doing rest)
Does frame values (Item.Unlock n) rest after next =
    MatchBool (int_eq (value_at values (lock_column frame n)) (pos frame.thread))
    ((after ≡ slice_set values (lock_column frame n) (pos 0)) × (next ≡ Standing.Doing rest))
    ((after ≡ values) × (next ≡ Standing.Failed))
Does frame values (Item.Loop g body last) rest after next = ⊥
Does frame values (Item.Again g body last) rest after next = ⊥
Does frame values Item.Break rest after next = (after ≡ values) × (next ≡ Standing.Doing (behind_loop rest))
Does frame values Item.Exit rest after next = (after ≡ values) × (next ≡ Standing.Doing Items.End)
Does frame values (Item.Atomic inner) rest after next = (end : WayEnd) × IsWay frame values inner after end × (next ≡ behind_way end rest)

-- The first item does this; where there is none, nothing is done.
abbrev pub DoesFirst : Frame → List ℤ → Items → List ℤ → Standing → Type 0
DoesFirst frame values Items.End after next = ⊥
DoesFirst frame values (Items.Then item rest) after next = Does frame values item rest after next

-- The thread, which stands so, steps from the values to the values after, and then stands so.
abbrev pub SourceSteps : Frame → List ℤ → Standing → List ℤ → Standing → Type 0
SourceSteps frame values Standing.Failed after next = ⊥
SourceSteps frame values (Standing.Doing is) after next = DoesFirst frame values (read_as is) after next
