-- Laws: a number in decimal, and how long a line is.
use Rattle.std.specs.Prelude.{ℕ, zero, suc, ◌+◌, ◌*◌, ◌/◌, ◌%◌, ◌<◌, ◌≤◌, ◌≡◌, refl, Bool, true, false, List, [], ◌∷◌, ◌++◌, length, ltb}
use Rattle.std.proofs.Common.{arith, length-append, lt-ltb, le-ltb, ltb-true, ltb-false}
use Rattle.bits.specs.Choice.{pick, pick_by}
use Rattle.text.specs.Text.{last_digits, decimal, line_with}

-- a number is below another, or it is not
pub below_or_not : {P : Type 0} (n m : ℕ) → (n < m → P) → (m ≤ n → P) → P
below_or_not {P} n m below not_below = go (ltb n m) refl
  where
    go : (b : Bool) → ltb n m ≡ b → P
    go true h = below (ltb-true n m h)
    go false h = not_below (ltb-false n m h)

-- ---- a number in decimal
-- two counts of digits above the number give the same digits
enough : (j k n : ℕ) → n < j → n < k → last_digits j n ≡ last_digits k n
unfolding last_digits
enough zero k n a b = absurd (omega arith)
enough (suc j) zero n a b = absurd (omega arith)
enough (suc j) (suc k) n a b =
    pick_by (λ (l : List ℕ). l ≡ pick (ltb n 10) ((48 + n) ∷ []) (last_digits k (n / 10) ++ ((48 + n % 10) ∷ []))) (ltb n 10)
    (λ h. rw h)
    (λ h.
    let large : 10 ≤ n = ltb-false n 10 h in
    rw (h, enough j k (n / 10) (omega arith) (omega arith)))

pub decimal_small : (n : ℕ) → n < 10 → decimal n ≡ (48 + n) ∷ []
unfolding decimal last_digits
decimal_small n small = rw (lt-ltb n 10 small)

pub decimal_large : (n : ℕ) → 10 ≤ n → decimal n ≡ decimal (n / 10) ++ ((48 + n % 10) ∷ [])
unfolding decimal last_digits
decimal_large n large = rw (le-ltb n 10 large, enough n (suc (n / 10)) (n / 10) (omega arith) (omega arith))

pub digits_more : (n : ℕ) → 10 ≤ n → length (decimal n) ≡ length (decimal (n / 10)) + 1
digits_more n large = rw (decimal_large n large) (length-append (decimal (n / 10)) ((48 + n % 10) ∷ []))

-- a digit fewer for a tenth of the bound
digits_within : (bound k n : ℕ) → 0 < k → ((m : ℕ) → m < bound → length (decimal m) ≤ k) → n < 10 * bound → length (decimal n) ≤ k + 1
digits_within bound k n some fewer small =
    below_or_not n 10 (λ one. rw (decimal_small n one) (omega arith)) (λ large. omega (arith, digits_more n large, fewer (n / 10) (omega arith)))

pub one_digit : (n : ℕ) → n < 10 → length (decimal n) ≡ 1
one_digit n small = rw (decimal_small n small)

pub five_digits : (n : ℕ) → n < 100000 → length (decimal n) ≤ 5
five_digits n small =
    digits_within 10000 4 n (omega arith)
    (λ m m_small.
    digits_within 1000 3 m (omega arith)
    (λ l l_small.
    digits_within 100 2 l (omega arith) (λ k k_small. digits_within 10 1 k (omega arith) (λ d d_small. omega (arith, one_digit d d_small)) k_small) l_small)
    m_small)
    small

-- ---- a line
pub line_length : (index : ℕ) (word : List ℕ) (number : ℕ)
    → length (line_with index word number) ≡ length (decimal index) + length word + length (decimal number) + 1
unfolding line_with
line_length index word number = simp length-append
