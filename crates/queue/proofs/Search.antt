-- For proofs alone: the steps of the search for a mark, at the i-th of the n places from s on.
use Prim.Native.Nat.{ℕ, zero, suc, ◌+◌, ◌-◌, ◌%◌, ◌<◌, ◌≤◌}
use native.Mathlib.Nat.{add-zero, sub-zero}
use native.Mathlib.Omega.{arith}
use mathlib.Core.Path.{◌≡◌, sym, ◌∙◌}
use mathlib.Core.Bool.{true, false}
use mathlib.Core.List.{List}
use lib.ListN.{get_or}
use borrow.Author.Tests.{ne_eqb}
use Rattle.queue.specs.Queue.{marked_from}

marked_here : (marks : List ℕ) (s n : ℕ) → 0 < n → (get_or marks (s % 64) 0 ≡ 0 → ⊥) → marked_from marks s n ≡ true
unfolding marked_from
marked_here marks s zero p h = absurd (omega arith)
marked_here marks s (suc n) p h = rw (ne_eqb (get_or marks (s % 64) 0) 0 h)

unmarked_here : (marks : List ℕ) (s n : ℕ) → 0 < n → get_or marks (s % 64) 0 ≡ 0 → marked_from marks s n ≡ marked_from marks (suc s) (n - 1)
unfolding marked_from
unmarked_here marks s zero p h = absurd (omega arith)
unmarked_here marks s (suc n) p h =
    let left : suc n - 1 ≡ n = omega arith in
    rw (h, left)

none_left : (marks : List ℕ) (s n : ℕ) → n ≡ 0 → marked_from marks s n ≡ false
unfolding marked_from
none_left marks s n e = rw e

-- what is left to look at decides as the whole does
abbrev pub Left : List ℕ → ℕ → ℕ → ℕ → Type 0
Left marks s n i = marked_from marks s n ≡ marked_from marks (s + i) (n - i)

module _ (marks : List ℕ) (s n : ℕ) where
  pub left_start : Left marks s n 0
  left_start = rw (add-zero, sub-zero)

  pub left_found : (i : ℕ) → Left marks s n i → i < n → (get_or marks ((s + i) % 64) 0 ≡ 0 → ⊥) → true ≡ marked_from marks s n
  left_found i h p x = sym (h ∙ marked_here marks (s + i) (n - i) (omega arith) x)

  pub left_again : (i : ℕ) → Left marks s n i → i < n → get_or marks ((s + i) % 64) 0 ≡ 0 → Left marks s n (i + 1)
  left_again i h p x =
      let place : suc (s + i) ≡ s + (i + 1) = omega arith in
      let fewer : n - i - 1 ≡ n - (i + 1) = omega arith in
      h ∙ unmarked_here marks (s + i) (n - i) (omega arith) x ∙ rw (place, fewer)

  pub left_none : (i : ℕ) → Left marks s n i → n ≤ i → false ≡ marked_from marks s n
  left_none i h p = sym (h ∙ none_left marks (s + i) (n - i) (omega arith))
