use Rattle.lin_rows.proofs.Divisors.{IsGcd-gcd, gcd_of-divides, gcd_of-greatest}
use Rattle.lin_rows.proofs.laws.divisors_are_greatest.Goals as goal

pub returns : goal.returns
returns c = record { of_two = IsGcd-gcd; common = gcd_of-divides; greatest = λ xs g all. gcd_of-greatest g xs all }
