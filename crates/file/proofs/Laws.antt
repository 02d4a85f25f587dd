-- Laws: what follows from the definitions of numbers, reading and writing, each thing once over the number or the operand.
use Rattle.std.specs.Prelude.{ℕ, ◌+◌, ◌*◌, ◌/◌, ◌%◌, ◌<◌, ◌≤◌, ◌≡◌, Bool, ◌||◌, get_or, eqb, ltb, leb, Ok, Err, Result, None}
use Rattle.std.proofs.Common.{add-zero, add-one, sym, ap, ◌∙◌, true≢false, length-drop, length-append, get_or-drop, drop-cons, drop-drop}
use native.Mathlib.Omega.{arith}
use Rattle.std.proofs.Math.Path.{refl}
use Rattle.std.proofs.Math.Bool.{true, false}
use mathlib.Core.List.{List, [], ◌∷◌, ◌++◌, append_assoc}
use Rattle.std.proofs.Math.ListN.{length, drop}
use Rattle.std.proofs.Math.Seq.{drop-append_seam}
use borrow.Author.Tests.{lt-ltb, le-ltb, le-leb, lt-leb, ne_eqb, leb-true, leb-false, eqb-false, ltb-true, ltb-false}
use Rattle.bits.specs.Choice.{pick, pick_by}
use Rattle.event.specs.declared.refusal.Refusal.TheVariants as refusal
use Rattle.event.specs.declared.events.Touch.{Touch}
use Rattle.event.specs.declared.events.Touch.TheVariants as touch
use Rattle.event.specs.declared.events.Event.{Event}
use Rattle.event.specs.declared.events.Event.TheVariants as event
use Rattle.event.specs.Refusals.{refusal_number}
use Rattle.event.specs.Kinds.{operand_count}
use Rattle.event.specs.Events.{event_of, Numbers, made_of, InRange, Made}
use Rattle.event.specs.Laws.{MadeOf, made_of_lem, Operand, Small}
use Rattle.event.specs.declared.refusal.Refusal.{Refusal}
use Rattle.file.specs.declared.number.Number.{Number}
use Rattle.file.specs.Numbers.{groups, second_broken, second_at, number_at, operand_at, found}
use Rattle.file.specs.Reading.{and_then, placed, operands_at, read_at, Standing}
use Rattle.file.specs.Form.{operand_bytes, number_bytes, bytes_of}
use Rattle.file.specs.Whole.{standing_at}
use Rattle.file.specs.Laws.{Bytes, ReadingFrom, Stands}

-- ---- a number as it is written
pub one_group : (n : ℕ) → n < 128 → groups n ≡ n ∷ []
unfolding groups
one_group n small = rw (lt-ltb n 128 small)

pub two_groups : (n low high : ℕ) → n ≡ low % 128 + 128 * high → 128 ≤ low → low < 256 → 0 < high → groups n ≡ low ∷ high ∷ []
unfolding groups
two_groups n low high e marked fits some =
    let first : n % 128 + 128 ≡ low = omega arith in
    let second : n / 128 ≡ high = omega arith in
    rw (le-ltb n 128 (omega arith), first, second)

groups_at_most_two : (n : ℕ) → length (groups n) ≤ 2
unfolding groups
groups_at_most_two n = pick_by (λ (l : List ℕ). length l ≤ 2) (ltb n 128) (λ _. omega arith) (λ _. omega arith)

-- ---- an event's bytes are five at most: of all operands only a byte can take two groups
touch_at_most_five : (channel : ℕ) (t : Touch) → InRange (event.At channel t) → length (bytes_of (event.At channel t)) ≤ 5
unfolding bytes_of groups
touch_at_most_five channel (touch.Write address byte) range =
    rw (one_group channel (omega arith), one_group address (omega arith)) (omega (arith, groups_at_most_two byte))
touch_at_most_five channel (touch.Read address) range = rw (one_group channel (omega arith), one_group address (omega arith)) (omega arith)
touch_at_most_five channel (touch.Arrival byte mark) range =
    rw (one_group channel (omega arith), one_group mark (omega arith)) (omega (arith, length-append (groups byte) (mark ∷ []), groups_at_most_two byte))
touch_at_most_five channel touch.Slot range = rw (one_group channel (omega arith)) (omega arith)
touch_at_most_five channel (touch.Pins value) range = rw (one_group channel (omega arith), one_group value (omega arith)) (omega arith)
touch_at_most_five channel touch.Quiet range = rw (one_group channel (omega arith)) (omega arith)
touch_at_most_five channel touch.RtsLook range = rw (one_group channel (omega arith)) (omega arith)

pub bytes_at_most_five : (e : Event) → InRange e → length (bytes_of e) ≤ 5
unfolding bytes_of groups
bytes_at_most_five (event.At channel t) range = touch_at_most_five channel t range
bytes_at_most_five event.Reset range = omega arith
bytes_at_most_five event.IrqLook range = omega arith

abbrev ReadFrom : List ℕ → Bool → ℕ → Result Number Refusal → Type 0
ReadFrom s wanted at (Ok n) =
    (at + pick wanted 1 0 ≤ n.next) × (n.next ≤ length s) × Operand wanted n.value × (Bytes s → drop at s ≡ operand_bytes wanted n.value ++ drop n.next s)
ReadFrom s wanted at (Err r) = refusal_number r ≤ 2

neither : (a b : Bool) → a || b ≡ false → (a ≡ false) × (b ≡ false)
neither true b h = absurd (true≢false h)
neither false b h = (refl, h)

second_whole : (byte : ℕ) → second_broken byte ≡ false → (byte ≡ 0 → ⊥) × (byte < 128)
second_whole byte h =
    let both = neither (eqb byte 0) (leb 128 byte) h in
    (eqb-false byte 0 both.0, leb-false 128 byte both.1)

first_byte : (s : List ℕ) (at : ℕ) → at < length s → drop at s ≡ get_or s at 0 ∷ drop (at + 1) s
first_byte s at inside = rw (add-one, drop-cons s at 0)

module _ (s : List ℕ) (at : ℕ) where
  small_from : at < length s → get_or s at 0 < 128 → ReadFrom s true at (found (get_or s at 0) (at + 1))
  small_from inside small =
      (omega arith, omega arith, (omega arith, refl), λ _. rw (one_group (get_or s at 0) small) (first_byte s at inside))

  large_from : at + 1 < length s → 128 ≤ get_or s at 0 → (get_or s (at + 1) 0 ≡ 0 → ⊥) × (get_or s (at + 1) 0 < 128)
      → ReadFrom s true at (found (get_or s at 0 % 128 + 128 * get_or s (at + 1) 0) (at + 1 + 1))
  large_from inside marked second = (
    omega arith,
    omega arith,
    (omega (arith, second.1), refl),
    λ bytes.
        rw (two_groups (get_or s at 0 % 128 + 128 * get_or s (at + 1) 0) (get_or s at 0) (get_or s (at + 1) 0) refl marked (bytes at) (omega (arith, second.0)))
        (rw (first_byte s at (omega arith), first_byte s (at + 1) inside)),
  )

  number_from : ReadFrom s true at (number_at s at)
  unfolding number_at second_at
  number_from =
      pick_by (ReadFrom s true at) (leb (length s) at) (λ _. omega arith) (λ inside.
      pick_by (ReadFrom s true at) (ltb (get_or s at 0) 128)
      (λ small. small_from (leb-false (length s) at inside) (ltb-true (get_or s at 0) 128 small)) (λ marked.
      pick_by (ReadFrom s true at) (leb (length s) (at + 1)) (λ _. omega arith) (λ again.
      pick_by (ReadFrom s true at) (second_broken (get_or s (at + 1) 0)) (λ _. omega arith)
      (λ whole. large_from (leb-false (length s) (at + 1) again) (ltb-false (get_or s at 0) 128 marked) (second_whole (get_or s (at + 1) 0) whole)))))

  operand_from : (wanted : Bool) → at ≤ length s → ReadFrom s wanted at (operand_at s wanted at)
  unfolding operand_at
  operand_from true inside = number_from
  operand_from false inside = (omega arith, inside, (omega arith, refl), λ _. refl)

-- ---- what stands at a place of an input
module _ (s : List ℕ) (at : ℕ) {byte : ℕ} {rest : List ℕ} (stands : drop at s ≡ byte ∷ rest) where
  byte_inside : at < length s
  byte_inside = omega (arith, length-drop at s, ap length stands)

  byte_there : get_or s at 0 ≡ byte
  byte_there = rw (add-zero, stands) at (sym (get_or-drop at s 0 0))

  byte_past : drop (at + 1) s ≡ rest
  byte_past = sym (drop-drop 1 at s) ∙ ap (λ (l : List ℕ). drop 1 l) stands

pub list_past : (s : List ℕ) (at : ℕ) (l rest : List ℕ) → drop at s ≡ l ++ rest → drop (at + length l) s ≡ rest
list_past s at l rest stands = sym (drop-drop (length l) at s) ∙ ap (drop (length l)) stands ∙ drop-append_seam l rest

-- ---- a number that was written reads back, and so does an operand
module _ (s : List ℕ) (at n : ℕ) (rest : List ℕ) where
  small_back : n < 128 → drop at s ≡ n ∷ rest → number_at s at ≡ found n (at + 1)
  unfolding number_at
  small_back small stands = rw (lt-leb (length s) at (byte_inside s at stands), byte_there s at stands, lt-ltb n 128 small)

  large_back : 128 ≤ n → n < 16384 → drop at s ≡ (n % 128 + 128) ∷ (n / 128) ∷ rest → number_at s at ≡ found n (at + 2)
  unfolding number_at second_at
  large_back large fits stands =
      let second : drop (at + 1) s ≡ (n / 128) ∷ rest = byte_past s at stands in
      let value : (n % 128 + 128) % 128 + 128 * (n / 128) ≡ n = omega arith in
      let place : at + 1 + 1 ≡ at + 2 = omega arith in
      rw (lt-leb (length s) at (byte_inside s at stands), byte_there s at stands, le-ltb (n % 128 + 128) 128 (omega arith))
      (rw (lt-leb (length s) (at + 1) (byte_inside s (at + 1) second), byte_there s (at + 1) second)
      (rw (ne_eqb (n / 128) 0 (omega arith), lt-leb 128 (n / 128) (omega arith), value, place)))

  number_back : n < 16384 → drop at s ≡ groups n ++ rest → number_at s at ≡ found n (at + length (groups n))
  unfolding groups
  number_back fits =
      pick_by (λ (l : List ℕ). drop at s ≡ l ++ rest → number_at s at ≡ found n (at + length l)) (ltb n 128)
      (λ h. small_back (ltb-true n 128 h))
      (λ h. large_back (ltb-false n 128 h) fits)

  operand_back : (wanted : Bool) → Operand wanted n → drop at s ≡ operand_bytes wanted n ++ rest
      → operand_at s wanted at ≡ found n (at + length (operand_bytes wanted n))
  unfolding operand_at
  operand_back true small stands = number_back small.0 stands
  operand_back false small stands = rw (small.1, add-zero)

-- ---- numbers that were written stand there, and come to what they make at the place past them
pub numbers_back : (s : List ℕ) (at : ℕ) (n : Numbers) (rest : List ℕ) → length s ≤ 65536 → Small n → drop at s ≡ number_bytes n ++ rest
    → (standing_at s at ≡ n) × (read_at s at ≡ placed (made_of n) (at + length (number_bytes n)))
unfolding standing_at read_at operands_at
numbers_back s at n rest short small stands =
    let k : List ℕ = groups n.kind in
    let x : List ℕ = operand_bytes (ltb 0 (operand_count n.kind)) n.x in
    let y : List ℕ = operand_bytes (ltb 1 (operand_count n.kind)) n.y in
    let z : List ℕ = operand_bytes (ltb 2 (operand_count n.kind)) n.z in
    let at_k : drop at s ≡ k ++ (x ++ (y ++ (z ++ rest))) = simp append_assoc at stands in
    let at_x : drop (at + length k) s ≡ x ++ (y ++ (z ++ rest)) = list_past s at k _ at_k in
    let at_y : drop (at + length k + length x) s ≡ y ++ (z ++ rest) = list_past s _ x _ at_x in
    let at_z : drop (at + length k + length x + length y) s ≡ z ++ rest = list_past s _ y _ at_y in
    let inside : at < length s = byte_inside s at (rw (one_group n.kind (omega arith)) at at_k) in
    rw (number_back s at n.kind _ (omega arith) at_k, operand_back s _ n.x _ _ small.1 at_x)
    (rw (operand_back s _ n.y _ _ small.2 at_y, operand_back s _ n.z _ _ small.3 at_z)
    (rw (le-ltb 65536 (length s) short, lt-leb (length s) at inside, le-ltb 8 n.kind small.0)
    (refl, ap (placed (made_of n)) (simp length-append (omega arith)))))

-- ---- the bytes of an event are those of the numbers that make it: an operand that the kind lacks is not written
operand_looked_at : (wanted : Bool) (n : ℕ) → operand_bytes wanted (pick wanted n 0) ≡ operand_bytes wanted n
operand_looked_at true n = refl
operand_looked_at false n = refl

pub bytes_of_made : (n : Numbers) (e : Event) → made_of n ≡ Ok e → bytes_of e ≡ number_bytes n
unfolding bytes_of
bytes_of_made n e come =
    let own : MadeOf n (Ok e) = rw come at (made_of_lem n.kind n.x n.y n.z) in
    simp (own.1, operand_looked_at)

module _ (s : List ℕ) (at : ℕ) where
  read_on : (wanted : Bool) (p : ℕ) (m : Result Number Refusal) (f : ℕ → ℕ → Standing) → operand_at s wanted p ≡ m → ReadFrom s wanted p m
      → ((n next : ℕ) → operand_at s wanted p ≡ found n next → ReadFrom s wanted p (found n next) → ReadingFrom s at (f n next))
      → ReadingFrom s at (and_then m f)
  read_on wanted p (Ok n) f is from then = then n.value n.next is from
  read_on wanted p (Err r) f is from then = omega arith

  placed_from : (n : Numbers) (next : ℕ) (m : Made) → MadeOf n m → n.kind ≤ 8 → at < next → next ≤ length s → Stands s at m next
      → ReadingFrom s at (placed m next)
  placed_from n next (Ok e) made known past inside stands = (past, inside, made.0, stands)
  placed_from n next (Err r) made known past inside stands = (past, inside, (made.0 known, made.1), stands)

  operands_from : (kind p : ℕ) → kind ≤ 8 → number_at s at ≡ found kind p → ReadFrom s true at (found kind p)
      → ReadingFrom s at (operands_at s kind p)
  unfolding operands_at standing_at
  operands_from kind p known k_is k =
      read_on (ltb 0 (operand_count kind)) p (operand_at s (ltb 0 (operand_count kind)) p) _ refl (operand_from s p _ k.1) (λ x q x_is kx.
      read_on (ltb 1 (operand_count kind)) q (operand_at s (ltb 1 (operand_count kind)) q) _ refl (operand_from s q _ kx.1) (λ y r y_is ky.
      read_on (ltb 2 (operand_count kind)) r (operand_at s (ltb 2 (operand_count kind)) r) _ refl (operand_from s r _ ky.1) (λ z next z_is kz.
      placed_from _ next (event_of kind x y z) (made_of_lem kind x y z) known (omega arith) kz.1
      (rw (k_is, x_is, y_is, z_is)
      ((known, kx.2, ky.2, kz.2), refl, λ bytes. rw (k.3 bytes, kx.3 bytes, ky.3 bytes, kz.3 bytes) (simp append_assoc))))))

  pub reading_from : ReadingFrom s at (read_at s at)
  unfolding read_at operand_at
  reading_from =
      pick_by (ReadingFrom s at) (ltb 65536 (length s)) (λ _. λ _. refl) (λ _.
      pick_by (ReadingFrom s at) (leb (length s) at) (λ past. leb-true (length s) at past) (λ _.
      read_on true at (number_at s at) _ refl (number_from s at) (λ kind p is k.
      pick_by (ReadingFrom s at) (ltb 8 kind) (λ _. omega arith) (λ known. operands_from kind p (ltb-false 8 kind known) is k))))

-- an input above 65,536 bytes is refused at any place, and from its end on any other is at its end
pub long_refused : (s : List ℕ) (at : ℕ) → 65536 < length s → read_at s at ≡ Err refusal.Long
unfolding read_at
long_refused s at long = rw (lt-ltb 65536 (length s) long)

pub past_the_end : (s : List ℕ) (at : ℕ) → length s ≤ 65536 → length s ≤ at → read_at s at ≡ Ok None
unfolding read_at
past_the_end s at short past = rw (le-ltb 65536 (length s) short, le-leb (length s) at past)
