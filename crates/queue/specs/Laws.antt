-- Laws: what each change does to the list that a queue stands for, once over the room, and that a queue stays well formed and
-- its places within their bounds.
use Prim.Native.Nat.{ℕ, zero, suc, ◌+◌, ◌-◌, ◌%◌, ◌<◌, ◌≤◌}
use Rattle.std.proofs.Math.Nat.{add-zero}
use Rattle.std.proofs.Math.Numerals.{add-one}
use native.Mathlib.Omega.{arith}
use Rattle.std.specs.Prelude.{◌≡◌, Bool, not, length, set, drop, replicate, eqb, ltb, Option, Some, None, IfSome}
use Rattle.std.specs.Bool.{then_some}
use Rattle.std.proofs.Math.Path.{refl}
use Rattle.std.proofs.Common.{ap, length-set, get_or-set_same, ne_eqb, ltb-true}
use Rattle.std.proofs.Math.Bool.{true, false}
use mathlib.Core.List.{List, [], ◌∷◌, ◌++◌}
use Rattle.std.proofs.Math.ListN.{get_or}
use Rattle.std.proofs.Math.Seq.{get_or-set_other}
use Rattle.std.proofs.lemmas.Option.{IfSome_then}
use Rattle.bits.specs.Choice.{pick, pick_by}
use Rattle.bits.specs.Bits.{one_if}
use Rattle.queue.specs.declared.Character.{Character}
use Rattle.queue.specs.declared.Queue.{Queue}
use Rattle.queue.specs.declared.Put.{Put}
use Rattle.queue.specs.declared.Moved.{Moved}
use Rattle.queue.specs.Change.{Change, Add, Take, Clear, Stay}
use Rattle.queue.specs.Queue.{WellFormed, Below, CharacterIn, Fits, MovedIn, none, empty_queue, oldest_of, marked_from, any_mark_of, adds_to, offered_to, takes_from, clears_all, stays_as, moved_by, put_into, after_of, changed}
use Rattle.queue.specs.List.{char_at, items_from, items, some_mark, list_after}

-- ---- the length is the count
length_from : (bytes marks : List ℕ) (s n : ℕ) → length (items_from bytes marks s n) ≡ n
unfolding items_from
length_from bytes marks s zero = refl
length_from bytes marks s (suc n) = ap suc (length_from bytes marks (suc s) n)

pub length_items : (q : Queue) → length (items q) ≡ q.count
unfolding items
length_items q = length_from q.bytes q.marks q.start q.count

-- ---- a queue of none
pub items_empty : items empty_queue ≡ []
unfolding items items_from empty_queue
items_empty = refl

pub items_cleared : (q : Queue) (room : ℕ) → items (changed q Clear room) ≡ []
unfolding items items_from moved_by clears_all after_of
items_cleared q room = refl

-- ---- a queue to which nothing happens is the same one
pub stays_after : (q : Queue) → after_of q (stays_as q) ≡ q
unfolding after_of stays_as
stays_after q = refl

-- ---- an added character is the last, and the others stay
module _ (bytes marks : List ℕ) (c : Character) (bytes_64 : length bytes ≡ 64) (marks_64 : length marks ≡ 64) where
  from_set : (s n at : ℕ) → at ≡ (s + n) % 64 → n < 64
      → items_from (set bytes at c.byte) (set marks at c.mark) s (suc n) ≡ items_from bytes marks s n ++ (c ∷ [])
  unfolding items_from
  from_set s zero at e p =
      let here : s % 64 ≡ at = omega arith in
      let inside : at < 64 = omega arith in
      let byte : get_or (set bytes at c.byte) (s % 64) 0 ≡ c.byte = rw here (get_or-set_same bytes at c.byte 0 (omega arith)) in
      let mark : get_or (set marks at c.mark) (s % 64) 0 ≡ c.mark = rw here (get_or-set_same marks at c.mark 0 (omega arith)) in
      λ i. record { byte = byte i; mark = mark i } ∷ []
  from_set s (suc n) at e p =
      let far : (s % 64 ≡ at → ⊥) = omega arith in
      let later : items_from (set bytes at c.byte) (set marks at c.mark) (suc s) (suc n) ≡ items_from bytes marks (suc s) n ++ (c ∷ []) =
      from_set (suc s) n at (omega arith) (omega arith) in
      rw (get_or-set_other bytes at (s % 64) c.byte 0 far, get_or-set_other marks at (s % 64) c.mark 0 far)
      (ap (λ (cs : List Character). char_at bytes marks s ∷ cs) later)

  abbrev put_behind : ℕ → ℕ → Bool → Option Put
  put_behind s n kept = pick kept (Some (record { place = (s + n) % 64; character = c })) None

  from_put : (s n : ℕ) (kept : Bool) → (kept ≡ true → n < 64)
      → items_from (put_into (put_behind s n kept) (λ c. c.byte) bytes) (put_into (put_behind s n kept) (λ c. c.mark) marks) s (n + one_if kept)
      ≡ pick kept (items_from bytes marks s n ++ (c ∷ [])) (items_from bytes marks s n)
  unfolding one_if
  from_put s n true p = rw add-one (from_set s n ((s + n) % 64) refl (p refl))
  from_put s n false p = rw add-zero

pub items_added : (q : Queue) (c : Character) (room : ℕ) → WellFormed q → room ≤ 64
    → items (changed q (Add c) room) ≡ pick (ltb (length (items q)) room) (items q ++ (c ∷ [])) (items q)
unfolding items moved_by adds_to after_of
items_added q c room ok r =
    rw length_items
    (from_put q.bytes q.marks c ok.bytes_64 ok.marks_64 q.start q.count (ltb q.count room) (λ h. omega (arith, ltb-true q.count room h)))

pub added_kept : (q : Queue) (c : Character) (room : ℕ) → (moved_by q (Add c) room).kept ≡ ltb (length (items q)) room
unfolding moved_by adds_to
added_kept q c room = rw length_items

-- ---- a taken character was the first, and the oldest is the head
from_round : (bytes marks : List ℕ) (s t n : ℕ) → s % 64 ≡ t % 64 → items_from bytes marks s n ≡ items_from bytes marks t n
unfolding items_from
from_round bytes marks s t zero h = refl
from_round bytes marks s t (suc n) h = rw (h, from_round bytes marks (suc s) (suc t) n (omega arith))

from_taken : (bytes marks : List ℕ) (s n : ℕ)
    → items_from bytes marks ((s + one_if (not (eqb n 0))) % 64) (n - one_if (not (eqb n 0))) ≡ drop 1 (items_from bytes marks s n)
unfolding items_from one_if
from_taken bytes marks s zero = refl
from_taken bytes marks s (suc n) =
    let left : suc n - 1 ≡ n = omega arith in
    rw (ne_eqb (suc n) 0 (omega arith), left) (from_round bytes marks ((s + 1) % 64) (suc s) n (omega arith))

pub items_taken : (q : Queue) (room : ℕ) → items (changed q Take room) ≡ drop 1 (items q)
unfolding items moved_by takes_from after_of
items_taken q room = from_taken q.bytes q.marks q.start q.count

from_head : (bytes marks : List ℕ) (s n : ℕ) → s < 64
    → pick (eqb n 0) none (record { byte = get_or bytes s 0; mark = get_or marks s 0 }) ≡ get_or (items_from bytes marks s n) 0 none
unfolding items_from
from_head bytes marks s zero h = refl
from_head bytes marks s (suc n) h =
    let here : s % 64 ≡ s = omega arith in
    rw (ne_eqb (suc n) 0 (omega arith), here)

pub oldest_head : (q : Queue) → WellFormed q → oldest_of q ≡ get_or (items q) 0 none
unfolding oldest_of items
oldest_head q ok = from_head q.bytes q.marks q.start q.count ok.start_in

-- ---- any mark is a mark of some character of the list
any_from : (bytes marks : List ℕ) (s n : ℕ) → marked_from marks s n ≡ some_mark (items_from bytes marks s n)
unfolding marked_from items_from some_mark
any_from bytes marks s zero = refl
any_from bytes marks s (suc n) = rw (any_from bytes marks (suc s) n)

pub any_mark_items : (q : Queue) → any_mark_of q ≡ some_mark (items q)
unfolding any_mark_of items
any_mark_items q = any_from q.bytes q.marks q.start q.count

-- ---- what happens to a queue happens to the list
pub stays_same : (q : Queue) (room : ℕ) → changed q Stay room ≡ q
unfolding moved_by stays_as after_of
stays_same q room = refl

pub items_changed : (q : Queue) (a : Change) (room : ℕ) → WellFormed q → room ≤ 64 → items (changed q a room) ≡ list_after (items q) a room
unfolding list_after
items_changed q (Add c) room ok r = items_added q c room ok r
items_changed q Take room ok r = items_taken q room
items_changed q Clear room ok r = items_cleared q room
items_changed q Stay room ok r = ap items (stays_same q room)

-- ---- a queue stays well formed
pub well_formed_empty : WellFormed empty_queue
unfolding empty_queue
well_formed_empty = record { start_in = omega arith; count_in = omega arith; bytes_64 = refl; marks_64 = refl }

length_put : (put : Option Put) (number : Character → ℕ) (places : List ℕ) → length (put_into put number places) ≡ length places
length_put None number places = refl
length_put (Some put) number places = simp length-set

room_for_one : (count room : ℕ) → count ≤ 64 → room ≤ 64 → count + one_if (ltb count room) ≤ 64
unfolding one_if
room_for_one count room h r = pick_by (λ (one : ℕ). count + one ≤ 64) (ltb count room) (λ fewer. omega (arith, ltb-true count room fewer)) (λ _. omega arith)

pub well_formed_after : (q : Queue) (m : Moved) → WellFormed q → m.start < 64 → m.count ≤ 64 → WellFormed (after_of q m)
unfolding after_of
well_formed_after q m ok s n =
    record { start_in = s; count_in = n; bytes_64 = simp length_put ok.bytes_64; marks_64 = simp length_put ok.marks_64 }

pub well_formed_changed : (q : Queue) (a : Change) (room : ℕ) → WellFormed q → room ≤ 64 → WellFormed (changed q a room)
unfolding moved_by adds_to takes_from clears_all stays_as
well_formed_changed q (Add c) room ok r = well_formed_after q (adds_to q c room) ok ok.start_in (room_for_one q.count room ok.count_in r)
well_formed_changed q Take room ok r = well_formed_after q (takes_from q) ok (omega arith) (omega arith)
well_formed_changed q Clear room ok r = well_formed_after q (clears_all q) ok ok.start_in (omega arith)
well_formed_changed q Stay room ok r = well_formed_after q (stays_as q) ok ok.start_in ok.count_in

-- ---- places stay below a bound that a new number is below
zeros : (n place : ℕ) → ◌≡◌ {A = ℕ} (get_or (replicate n 0) place 0) 0
zeros zero place = refl
zeros (suc n) zero = refl
zeros (suc n) (suc place) = zeros n place

set_below : (bound : ℕ) (places : List ℕ) (at x : ℕ) → x < bound → ((place : ℕ) → get_or places place 0 < bound)
    → (place : ℕ) → get_or (set places at x) place 0 < bound
set_below bound [] at x x_in h place = h place
set_below bound (y ∷ places) zero x x_in h zero = x_in
set_below bound (y ∷ places) zero x x_in h (suc place) = h (suc place)
set_below bound (y ∷ places) (suc at) x x_in h zero = h zero
set_below bound (y ∷ places) (suc at) x x_in h (suc place) = set_below bound places at x x_in (λ k. h (suc k)) place

module _ (bound : ℕ) where
  pub empty_below : 0 < bound → Below bound (replicate 64 0)
  unfolding Below
  empty_below some place = rw (zeros 64 place) some

  put_below : (put : Option Put) (number : Character → ℕ) (places : List ℕ) → IfSome put (λ (p : Put). number p.character < bound)
      → Below bound places → Below bound (put_into put number places)
  unfolding Below
  put_below None number places empty h = h
  put_below (Some put) number places some h = set_below bound places put.place (number put.character) some h

  pub oldest_byte_below : (q : Queue) → 0 < bound → Below bound q.bytes → (oldest_of q).byte < bound
  unfolding Below oldest_of
  oldest_byte_below q some h = pick_by (λ (c : Character). c.byte < bound) (eqb q.count 0) (λ _. some) (λ _. h q.start)

  pub oldest_mark_below : (q : Queue) → 0 < bound → Below bound q.marks → (oldest_of q).mark < bound
  unfolding Below oldest_of
  oldest_mark_below q some h = pick_by (λ (c : Character). c.mark < bound) (eqb q.count 0) (λ _. some) (λ _. h q.start)

-- ---- what becomes of a queue
-- the place that is written is one of the 64
fits_moved : (q : Queue) (a : Change) (room : ℕ) → Fits (moved_by q a room)
unfolding moved_by adds_to takes_from clears_all stays_as
fits_moved q (Add c) room =
    pick_by (λ (put : Option Put). IfSome put (λ (p : Put). p.place < 64)) (ltb q.count room) (λ _. omega arith) (λ _. tt)
fits_moved q Take room = tt
fits_moved q Clear room = tt
fits_moved q Stay room = tt

-- a character that is offered is within its bounds
abbrev pub ChangeIn : Change → Type 0
ChangeIn (Add c) = CharacterIn c
ChangeIn Take = Unit {0}
ChangeIn Clear = Unit {0}
ChangeIn Stay = Unit {0}

character_moved : (q : Queue) (a : Change) (room : ℕ) → ChangeIn a → IfSome (moved_by q a room).put (λ (p : Put). CharacterIn p.character)
unfolding moved_by adds_to takes_from clears_all stays_as
character_moved q (Add c) room h =
    pick_by (λ (put : Option Put). IfSome put (λ (p : Put). CharacterIn p.character)) (ltb q.count room) (λ _. h) (λ _. tt)
character_moved q Take room h = tt
character_moved q Clear room h = tt
character_moved q Stay room h = tt

pub moved_in : (q : Queue) (a : Change) (room : ℕ) → WellFormed q → room ≤ 64 → ChangeIn a → MovedIn (moved_by q a room)
unfolding after_of
moved_in q a room ok r h =
    record {
      start_in = (well_formed_changed q a room ok r).start_in;
      count_in = (well_formed_changed q a room ok r).count_in;
      place_in = fits_moved q a room;
      character_in = character_moved q a room h;
    }

-- the queue after it, and what stands at its places
module _ (q : Queue) (m : Moved) (moved : MovedIn m) where
  pub queue_after : WellFormed q → WellFormed (after_of q m)
  queue_after ok = well_formed_after q m ok moved.start_in moved.count_in

  pub bytes_after : Below 256 q.bytes → Below 256 (after_of q m).bytes
  unfolding after_of
  bytes_after h = put_below 256 m.put (λ c. c.byte) q.bytes (IfSome_then m.put moved.character_in (λ p inside. inside.byte_in)) h

  pub marks_after : Below 8 q.marks → Below 8 (after_of q m).marks
  unfolding after_of
  marks_after h = put_below 8 m.put (λ c. c.mark) q.marks (IfSome_then m.put moved.character_in (λ p inside. inside.mark_in)) h

-- by one change or another, as a condition has it
pub moved_pick : (q : Queue) (goes : Bool) (a b : Change) (room : ℕ) → moved_by q (pick goes a b) room ≡ pick goes (moved_by q a room) (moved_by q b room)
moved_pick q true a b room = refl
moved_pick q false a b room = refl

pub offered_or_not : (q : Queue) (comes : Bool) (c : Character) (room : ℕ) → offered_to q (then_some comes c) room ≡ pick comes (adds_to q c room) (stays_as q)
offered_or_not q true c room = refl
offered_or_not q false c room = refl

-- ---- places are used again: however many characters come and go, the list is what the same changes make of a list
abbrev pub all_changed : ℕ → List Change → Queue → Queue
all_changed room [] q = q
all_changed room (a ∷ changes) q = all_changed room changes (changed q a room)

abbrev pub list_after_all : ℕ → List Change → List Character → List Character
list_after_all room [] cs = cs
list_after_all room (a ∷ changes) cs = list_after_all room changes (list_after cs a room)

pub places_used_again : (room : ℕ) (changes : List Change) (q : Queue) → room ≤ 64 → WellFormed q
    → items (all_changed room changes q) ≡ list_after_all room changes (items q)
places_used_again room [] q r ok = refl
places_used_again room (a ∷ changes) q r ok =
    rw (← items_changed q a room ok r) (places_used_again room changes (changed q a room) r (well_formed_changed q a room ok r))
