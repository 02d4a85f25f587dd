-- For proofs alone: a buffer filled step by step: after `i` steps it holds their text, and the rest is as it was.
use Prim.Native.Nat.{ℕ, ◌+◌, ◌-◌, ◌≤◌}
use native.Mathlib.Nat.{zero-add}
use native.Mathlib.Omega.{arith}
use mathlib.Core.Path.{◌≡◌, refl, sym, ◌∙◌}
use mathlib.Core.List.{List, [], ◌++◌, append-nil}
use lib.ListN.{length, drop, length-append}
use lib.Seq.{sets, sets-eq}
use Rattle.run.specs.declared.cursor.Cursor.{Cursor}
use Rattle.run.specs.declared.cursor.Progress.{Progress}
use Rattle.run.specs.Cursor.{progress_of, text_said, text_in, cursor_after, filled_by}
use Rattle.run.proofs.Laws.{cursor_sum, text_sum, cursor_more, text_more}
use Rattle.text.specs.Text.{Puts}
use Rattle.text.proofs.Stores.{sets_append}

pub record Filling (s : List ℕ) (c₀ : Cursor) (out₀ : List ℕ) (out : List ℕ) (c : Cursor) (count i : ℕ) : Type 0 where
  pub cursor_is : c ≡ cursor_after i s c₀
  pub count_is : count ≡ length (text_in i s c₀)
  pub out_is : out ≡ sets out₀ 0 (text_in i s c₀)

module _ (s : List ℕ) (c₀ : Cursor) (out₀ : List ℕ) where
  pub filling_new : Filling s c₀ out₀ out₀ c₀ 0 0
  unfolding text_in cursor_after
  filling_new = record { cursor_is = refl; count_is = refl; out_is = refl }

  module _ (out : List ℕ) (c : Cursor) (count i : ℕ) (so_far : Filling s c₀ out₀ out c count i) where
    pub filling_more : (out' : List ℕ) (p : Progress) (count' : ℕ) → p ≡ progress_of s c → Puts out count (text_said c.index p.said) out' count'
        → Filling s c₀ out₀ out' p.cursor count' (i + 1)
    filling_more out' p count' hp put =
        let text : text_in (i + 1) s c₀ ≡ text_in i s c₀ ++ text_said c.index p.said = rw (hp, so_far.cursor_is) (text_more s i c₀) in
        record {
          cursor_is = rw (hp, so_far.cursor_is) (sym (cursor_more s i c₀));
          count_is = rw (text, put.value, so_far.count_is) (sym (length-append (text_in i s c₀) (text_said c.index p.said)));
          out_is = rw (text, sets_append out₀ 0 (text_in i s c₀) (text_said c.index p.said), zero-add, ← so_far.count_is, ← so_far.out_is) put.out_after;
        }

    -- what is left of the steps says nothing and moves nothing: the buffer is filled
    pub filling_done : (n : ℕ) → i ≤ n → cursor_after (n - i) s c ≡ c → text_in (n - i) s c ≡ [] → count ≤ length out₀
        → (record { cursor = c; count = count } ≡ filled_by n s c₀) × (out ≡ text_in n s c₀ ++ drop count out₀)
    unfolding filled_by
    filling_done n within still silent room =
        let all : i + (n - i) ≡ n = omega arith in
        let cursor : cursor_after n s c₀ ≡ c =
        rw all at (cursor_sum s i (n - i) c₀) ∙ rw (← so_far.cursor_is) still in
        let text : text_in n s c₀ ≡ text_in i s c₀ =
        rw all at (text_sum s i (n - i) c₀) ∙ rw (← so_far.cursor_is, silent, append-nil) in (
          rw (cursor, text, ← so_far.count_is),
          rw (text, so_far.out_is, sets-eq (text_in i s c₀) out₀ 0 (omega (arith, so_far.count_is)), zero-add, ← so_far.count_is),
        )

    pub filling_whole : (n : ℕ) → i ≤ n → n ≤ i → count ≤ length out₀
        → (record { cursor = c; count = count } ≡ filled_by n s c₀) × (out ≡ text_in n s c₀ ++ drop count out₀)
    unfolding cursor_after text_in
    filling_whole n within past room =
        let none : n - i ≡ 0 = omega arith in
        filling_done n within (rw none) (rw none) room
