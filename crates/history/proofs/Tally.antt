-- For proofs alone: a queue that holds what a tally has unread goes on to do so, change by change. The receive queue and its judge
-- meet here alone.
use Rattle.std.specs.Prelude.{ℕ, ◌≤◌, ◌≡◌, refl, Bool, true, false, List, [], ◌∷◌, ◌++◌, length, drop, eqb, ltb}
use Rattle.std.proofs.Common.{arith, sym, ap, ◌∙◌, length-drop, length-append, drop_of_length-le, drop-drop, eqb-true}
use Rattle.std.proofs.lemmas.List.{drop-append-le}
use Rattle.std.proofs.lemmas.Bool.{eqb-false, not-true, not-false}
use Rattle.bits.specs.Choice.{pick, pick_by}
use Rattle.queue.specs.declared.Character.{Character}
use Rattle.queue.specs.declared.Queue.{Queue}
use Rattle.queue.specs.Change.{Change, Add, Take, Clear, Stay}
use Rattle.queue.specs.Queue.{WellFormed, changed}
use Rattle.queue.specs.List.{list_after}
use Rattle.queue.specs.Laws.{length_items, items_changed}
use Rattle.history.specs.Judge.{Tally, queued, unread, keeps, finds, tally_after}
use Rattle.history.specs.Tally.{Holds, ReadWithin}

pub within_after : (l : Tally) (a : Change) (room : ℕ) → ReadWithin l → ReadWithin (tally_after l a room)
unfolding tally_after
within_after l (Add c) room h = pick_by ReadWithin (keeps l room) (λ _. simp length-append (omega arith)) (λ _. h)
within_after l Take room h =
    pick_by ReadWithin (finds l) (λ some. omega (arith, eqb-false (queued l) 0 (not-true (eqb (queued l) 0) some))) (λ _. h)
within_after l Clear room h = omega arith
within_after l Stay room h = h

-- a change does to what is unread what it does to any list
unread_added : (l : Tally) (c : Character) (room : ℕ) → ReadWithin l → unread (tally_after l (Add c) room) ≡ list_after (unread l) (Add c) room
unfolding tally_after list_after
unread_added l c room h = rw length-drop (go (ltb (queued l) room))
  where
    go : (fewer : Bool) → unread (pick fewer (record { kept = l.kept ++ (c ∷ []); read = l.read }) l) ≡ pick fewer (unread l ++ (c ∷ [])) (unread l)
    go true = drop-append-le l.read l.kept (c ∷ []) h
    go false = refl

unread_taken : (l : Tally) (room : ℕ) → unread (tally_after l Take room) ≡ list_after (unread l) Take room
unfolding tally_after list_after
unread_taken l room =
    pick_by (λ (m : Tally). unread m ≡ drop 1 (unread l)) (finds l)
    (λ _. sym (drop-drop 1 l.read l.kept))
    (λ none. let all : length l.kept ≤ l.read = omega (arith, eqb-true (queued l) 0 (not-false (eqb (queued l) 0) none)) in rw (drop_of_length-le l.kept all))

pub unread_after : (l : Tally) (a : Change) (room : ℕ) → ReadWithin l → unread (tally_after l a room) ≡ list_after (unread l) a room
unfolding tally_after list_after
unread_after l (Add c) room h = unread_added l c room h
unread_after l Take room h = unread_taken l room
unread_after l Clear room h = refl
unread_after l Stay room h = refl

pub holds_count : {q : Queue} {l : Tally} → Holds q l → q.count ≡ queued l
holds_count {q} {l} h = sym (length_items q) ∙ ap length h.same ∙ length-drop l.read l.kept

pub holds_changed : (q : Queue) (l : Tally) (a : Change) (room : ℕ) → WellFormed q → room ≤ 64 → Holds q l → Holds (changed q a room) (tally_after l a room)
holds_changed q l a room ok r h =
    record {
      within = within_after l a room h.within;
      same = items_changed q a room ok r ∙ ap (λ (cs : List Character). list_after cs a room) h.same ∙ sym (unread_after l a room h.within);
    }
