-- Laws: a number's digits say the number, without leading zeros.
use Rattle.std.specs.Prelude.{ℕ, zero, suc, ◌+◌, ◌-◌, ◌*◌, ◌/◌, ◌%◌, ◌<◌, ◌≤◌, ◌≡◌, refl, List, [], ◌∷◌, ◌++◌, length, get_or}
use Rattle.std.proofs.Common.{arith, sym, ◌∙◌, length-append}
use Rattle.std.proofs.Math.ListN.{get_or-append}
use Rattle.text.specs.Text.{decimal}
use Rattle.text.specs.Laws.{below_or_not, decimal_small, decimal_large}

-- ---- by one digit after the other
module _ (P : ℕ → List ℕ → Type 0) (one : (n : ℕ) → n < 10 → P n ((48 + n) ∷ []))
    (more : (n : ℕ) (l : List ℕ) → 10 ≤ n → P (n / 10) l → P n (l ++ ((48 + n % 10) ∷ []))) where
  by_digits : (k n : ℕ) → n < k → P n (decimal n)
  by_digits zero n fits = absurd (omega arith)
  by_digits (suc k) n fits =
      below_or_not n 10 (λ small. rw (decimal_small n small) (one n small))
      (λ large. rw (decimal_large n large) (more n (decimal (n / 10)) large (by_digits k (n / 10) (omega arith))))

-- the number that a list of digits says, after one that stands before them
abbrev pub value_after : ℕ → List ℕ → ℕ
value_after before [] = before
value_after before (digit ∷ rest) = value_after (10 * before + (digit - 48)) rest

value_more : (before : ℕ) (l : List ℕ) (digit : ℕ) → value_after before (l ++ (digit ∷ [])) ≡ 10 * value_after before l + (digit - 48)
value_more before [] digit = refl
value_more before (d ∷ l) digit = value_more (10 * before + (d - 48)) l digit

pub decimal_says : (n : ℕ) → value_after 0 (decimal n) ≡ n
decimal_says n =
    by_digits (λ (n : ℕ) (l : List ℕ). value_after 0 l ≡ n) (λ n small. omega arith)
    (λ n l large says. omega (arith, says, value_more 0 l (48 + n % 10))) (suc n) n (omega arith)

abbrev pub AllDigits : List ℕ → Type 0
AllDigits [] = Unit {0}
AllDigits (b ∷ rest) = (48 ≤ b) × (b ≤ 57) × AllDigits rest

all_digits_more : (l : List ℕ) (digit : ℕ) → AllDigits l → 48 ≤ digit → digit ≤ 57 → AllDigits (l ++ (digit ∷ []))
all_digits_more [] digit all low high = (low, high, tt)
all_digits_more (b ∷ l) digit all low high = (all.0, all.1, all_digits_more l digit all.2 low high)

pub decimal_digits : (n : ℕ) → AllDigits (decimal n)
decimal_digits n =
    by_digits (λ (n : ℕ) (l : List ℕ). AllDigits l) (λ n small. omega arith)
    (λ n l large all. all_digits_more l (48 + n % 10) all (omega arith) (omega arith)) (suc n) n (omega arith)

-- the first digit is 0 only of the number 0
pub no_leading_zero : (n : ℕ) → get_or (decimal n) 0 0 ≡ 48 → n ≡ 0
no_leading_zero n =
    (by_digits (λ (n : ℕ) (l : List ℕ). (0 < length l) × (get_or l 0 0 ≡ 48 → n ≡ 0)) (λ n small. (omega arith, λ h. omega arith))
    (λ n l large before. (
      simp length-append (omega arith),
      λ h. absurd (omega (arith, before.1 (sym (get_or-append l ((48 + n % 10) ∷ []) 0 0 before.0) ∙ h))),
    )) (suc n) n (omega arith)).1
