-- For proofs alone: the reads that found a character gave what was kept, in order.
use Rattle.std.specs.Prelude.{ℕ, ◌+◌, ◌<◌, ◌≡◌, refl, Bool, true, false, List, [], ◌∷◌, ◌++◌, length, get_or, eqb}
use Rattle.std.proofs.Common.{add-one, arith, take-suc}
use Rattle.std.proofs.lemmas.List.{map-append, take-append-le}
use Rattle.std.proofs.lemmas.Bool.{eqb-false, not-true}
use Rattle.bits.specs.Choice.{pick, pick_by}
use Rattle.queue.specs.Change.{Change, Add, Take, Clear, Stay}
use Rattle.queue.specs.Queue.{none}
use Rattle.history.specs.Judge.{Tally, queued, keeps, finds, tally_after}
use Rattle.history.specs.Demand3.{found_after}
use Rattle.history.specs.Tally.{ReadWithin}
use Rattle.history.specs.Order.{InOrder}

-- one change: a read that finds a character replies with the next unread
pub in_order_after : (a : Change) (room : ℕ) (l : Tally) (reply : ℕ) (found : List ℕ) → ReadWithin l
    → (a ≡ Take → reply ≡ (get_or l.kept l.read none).byte)
    → InOrder l found → InOrder (tally_after l a room) (found_after a l reply found)
unfolding tally_after found_after
in_order_after (Add c) room l reply found within next h =
    pick_by (λ (m : Tally). InOrder m found) (keeps l room) (λ _. rw (take-append-le l.read l.kept (c ∷ []) within) h) (λ _. h)
in_order_after Take room l reply found within next h = go (finds l) refl
  where
    go : (some : Bool) → finds l ≡ some
        → InOrder (pick some (record { kept = l.kept; read = l.read + 1 }) l) (pick some (found ++ (reply ∷ [])) found)
    go true e =
        let some : (queued l ≡ 0 → ⊥) = eqb-false (queued l) 0 (not-true (eqb (queued l) 0) e) in
        let inside : l.read < length l.kept = omega (arith, some) in
        rw (add-one, take-suc l.kept l.read none inside, map-append, h, next refl)
    go false e = h
in_order_after Clear room l reply found within next h = refl
in_order_after Stay room l reply found within next h = h
