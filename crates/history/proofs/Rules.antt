-- Laws: the rules that the judge shares with the device, written out to be held against document 01: what clears the receive queue,
-- what is a read of it, what becomes of an arrival, mode by mode, and what is kept.
use Prim.Native.Nat.{ℕ}
use Rattle.std.specs.Prelude.{◌≡◌, Bool, not, ◌&&◌, ◌||◌, [], ◌∷◌, ◌++◌, ltb, None, Some, Ok, Err}
use Rattle.std.proofs.Math.Path.{refl, sym}
use Rattle.std.proofs.Common.{ap, eqb-true}
use Rattle.std.proofs.Math.Bool.{true, false}
use Rattle.std.proofs.Math.Dec.{eqb}
use Rattle.bits.specs.Choice.{pick, pick_by}
use Rattle.bits.specs.Bits.{differs, bit_at, part_at, replaced_at, cut_to}
use Rattle.queue.specs.Change.{Change, Add, Take, Clear, Stay}
use Rattle.event.specs.declared.events.Event.TheVariants as event
use Rattle.event.specs.Events.{Made}
use Rattle.event.specs.declared.events.Touch.{Touch}
use Rattle.event.specs.declared.events.Touch.TheVariants as touch
use Rattle.registers.specs.declared.register.Register.{Register}
use Rattle.registers.specs.declared.register.Register.TheVariants as register
use Rattle.registers.specs.declared.settings.Settings.{Settings}
use Rattle.registers.specs.Windows.{tcr_open, general_at, enhanced_at, divisor_at, register_at}
use Rattle.registers.specs.Writes.{with_setting, with_any, resets_device}
use Rattle.registers.specs.Pairs.{chooses_pair, chooses_first, pair_at}
use Rattle.levels.specs.Queues.{room_of, fifo_changes, clears}
use Rattle.receiver.specs.declared.arrival.Gate.{Gate}
use Rattle.receiver.specs.declared.arrival.Gate.TheVariants as gate
use Rattle.receiver.specs.Arrivals.{mode_of, arrived_byte, equals_xoff2, does_pass, unless_off, receiver_set, special_match, taken_as, compared_as, gate_plain, heard_plain, as_data, heard_ninth, heard_address, heard_of}
use Rattle.receiver.specs.Line.{fate_number}
use Rattle.acts.specs.Touches.{setting_by, settings_after, receive_change, resets_by}
use Rattle.device.specs.declared.side.Side.{Side}
use Rattle.device.specs.Device.{side_numbered}
use Rattle.history.specs.Judge.{keeps, tally_after, Ledger, Reset, Own, Other, is_side, named_effect, effect_on, change_by, ledger_after}
use Rattle.history.specs.Rules.{NamedAt, as_queued, change_of, clear_written, data_fate, efcr_heard, fate_by, general, is_address, is_taken, offered, reset_written, room_fate, touch_change, write_clears}

module _ (address : ℕ) where
  -- a register that stands at a place of a table, or one of those behind it
  next : (P : Register → Type 0) (place : ℕ) {r rest : Register} → (address ≡ place → P r) → (eqb address place ≡ false → P rest)
      → P (pick (eqb address place) r rest)
  next P place here there = pick_by P (eqb address place) (λ h. here (eqb-true address place h)) there

  in_general : (tcr : Bool) → NamedAt (eqb address) (general_at address tcr)
  unfolding general_at
  in_general tcr =
      next P 0 (λ e. rw e (refl, refl, refl))
      (λ not_0. next P 1 (λ e. rw e (refl, refl, refl))
      (λ _. next P 2 (λ e. rw e (refl, refl, refl))
      (λ not_2. next P 4 (λ e. rw e (refl, refl, refl))
      (λ _. next P 5 (λ e. rw e (refl, refl, refl))
      (λ _. next P 6 (λ e. rw e (pick_by (NamedAt (eqb 6)) tcr (λ _. (refl, refl, refl)) (λ _. (refl, refl, refl))))
      (λ _. next P 7 (λ e. rw e (pick_by (NamedAt (eqb 7)) tcr (λ _. (refl, refl, refl)) (λ _. (refl, refl, refl))))
      (λ _. next P 8 (λ e. rw e (refl, refl, refl))
      (λ _. next P 9 (λ e. rw e (refl, refl, refl))
      (λ _. next P 14 (λ e. rw e (refl, refl, refl))
      (λ not_14. next P 15 (λ e. rw e (refl, refl, refl))
      (λ _. (sym not_0, sym not_2, sym not_14))))))))))))
    where
      P : Register → Type 0
      P r = NamedAt (eqb address) r

  -- none of the three stands in the other windows
  abbrev Elsewhere : Register → Type 0
  Elsewhere r = NamedAt (λ _. false) r

  in_enhanced : Elsewhere (enhanced_at address)
  unfolding enhanced_at
  in_enhanced =
      next Elsewhere 2 (λ _. (refl, refl, refl))
      (λ _. next Elsewhere 4 (λ _. (refl, refl, refl))
      (λ _. next Elsewhere 5 (λ _. (refl, refl, refl))
      (λ _. next Elsewhere 6 (λ _. (refl, refl, refl))
      (λ _. next Elsewhere 7 (λ _. (refl, refl, refl)) (λ _. (refl, refl, refl))))))

  in_divisor : Elsewhere (divisor_at address)
  unfolding divisor_at
  in_divisor = next Elsewhere 0 (λ _. (refl, refl, refl)) (λ _. next Elsewhere 1 (λ _. (refl, refl, refl)) (λ _. (refl, refl, refl)))

  in_window : (set divisor tcr : Bool)
      → NamedAt (λ place. not set && eqb address place)
      (pick (eqb address 3) register.Lcr (pick (not set) (general_at address tcr) (pick divisor (enhanced_at address) (divisor_at address))))
  in_window true divisor tcr =
      next Elsewhere 3 (λ _. (refl, refl, refl)) (λ _. pick_by Elsewhere divisor (λ _. in_enhanced) (λ _. in_divisor))
  in_window false divisor tcr = next (NamedAt (eqb address)) 3 (λ e. rw e (refl, refl, refl)) (λ _. in_general tcr)

pub named_exactly : (s : Settings) (address : ℕ) → NamedAt (general s address) (register_at s address)
unfolding register_at
named_exactly s address = in_window address (bit_at s.lcr 7) (eqb s.lcr 0xBF) (tcr_open s)

module _ (l : Ledger) (byte mark : ℕ) where
  -- what passes unless the receiver is off
  unless_off_lem : fate_number (unless_off l.own) (keeps l.tally (room_of l.own)) ≡ data_fate l
  unfolding fate_number unless_off room_of
  unless_off_lem = go (bit_at l.own.efcr 1)
    where
      go : (off : Bool) → fate_number (pick off gate.Off gate.Passes) (keeps l.tally (room_of l.own)) ≡ pick off 2 (room_fate l)
      go true = refl
      go false = refl

  -- "EFCR 0 clear: dropped (2) if EFCR 1 is set. Otherwise it passes"; Xoff and Xon: "Neither is queued: new fate 4."
  pub fate_plain : bit_at l.own.efcr 0 ≡ false
      → fate_by l byte mark ≡ pick (bit_at l.own.efcr 1) 2 (pick (is_taken l.own byte mark) 4 (room_fate l))
  unfolding heard_of mode_of heard_plain gate_plain chooses_pair compared_as special_match equals_xoff2 taken_as pair_at chooses_first arrived_byte cut_to fate_number room_of
  fate_plain plain =
      rw plain
      (go (bit_at l.own.efcr 1) (eqb (part_at l.own.efr 0 2) 2) (eqb (part_at l.own.efr 0 2) 1) (eqb mark 0)
      (bit_at l.own.efr 5 && eqb (as_queued l.own byte mark) l.own.xoff2))
    where
      character : ℕ
      character = as_queued l.own byte mark

      by_pair : (xoff xon : Bool) → fate_number (pick xoff gate.Xoff (pick xon gate.Xon gate.Passes)) (keeps l.tally (room_of l.own)) ≡ pick (xoff || xon) 4 (room_fate l)
      by_pair true xon = refl
      by_pair false true = refl
      by_pair false false = refl

      go : (off first second unmarked special : Bool)
          → fate_number
          (pick off gate.Off
          (pick (first || second)
          (pick (unmarked && not special)
          (pick (eqb character (pick first l.own.xoff1 l.own.xoff2)) gate.Xoff
          (pick (eqb character (pick first l.own.xon1 l.own.xon2)) gate.Xon gate.Passes))
          gate.Passes)
          gate.Passes))
          (keeps l.tally (room_of l.own))
          ≡ pick off 2
          (pick
          (unmarked && not special
          && pick first (eqb character l.own.xoff1 || eqb character l.own.xon1)
          (second && (eqb character l.own.xoff2 || eqb character l.own.xon2)))
          4 (room_fate l))
      go true first second unmarked special = refl
      go false true second true false = by_pair (eqb character l.own.xoff1) (eqb character l.own.xon1)
      go false true second true true = refl
      go false true second false special = refl
      go false false true true false = by_pair (eqb character l.own.xoff2) (eqb character l.own.xon2)
      go false false true true true = refl
      go false false true false special = refl
      go false false false true true = refl
      go false false false true false = refl
      go false false false false special = refl

  -- "EFCR 0 set, EFR 5 clear: ninth bit 1 passes; ninth bit 0 passes unless EFCR 1 is set (2)."
  pub fate_ninth : bit_at l.own.efcr 0 ≡ true → bit_at l.own.efr 5 ≡ false → fate_by l byte mark ≡ pick (bit_at mark 0) (room_fate l) (data_fate l)
  unfolding heard_of mode_of heard_ninth as_data fate_number room_of
  fate_ninth ninth plain = rw (ninth, plain) (go (bit_at mark 0))
    where
      go : (bit : Bool)
          → fate_number (pick (not bit) (as_data l.own) (record { gate = gate.Passes; special = false; setting = None })).gate (keeps l.tally (room_of l.own))
          ≡ pick bit (room_fate l) (data_fate l)
      go true = refl
      go false = unless_off_lem

  -- "EFCR 0 and EFR 5 set: ninth bit 1 and equal to XOFF2 .. passes; ninth bit 1 and unequal .. is dropped (3); ninth bit 0 as in
  -- the line above."
  pub fate_address : bit_at l.own.efcr 0 ≡ true → bit_at l.own.efr 5 ≡ true
      → fate_by l byte mark ≡ pick (bit_at mark 0) (pick (eqb (as_queued l.own byte mark) l.own.xoff2) (room_fate l) 3) (data_fate l)
  unfolding heard_of mode_of heard_address as_data equals_xoff2 arrived_byte cut_to fate_number room_of
  fate_address ninth address = rw (ninth, address) (go (bit_at mark 0) (eqb (as_queued l.own byte mark) l.own.xoff2))
    where
      go : (bit equal : Bool)
          → fate_number
          (pick (not bit) (as_data l.own)
          (pick equal (record { gate = gate.Passes; special = false; setting = Some (receiver_set l.own 0) })
          (record { gate = gate.Elsewhere; special = false; setting = Some (receiver_set l.own 2) }))).gate
          (keeps l.tally (room_of l.own))
          ≡ pick bit (pick equal (room_fate l) 3) (data_fate l)
      go true true = refl
      go true false = refl
      go false equal = unless_off_lem

resets_written : (s : Settings) (address byte : ℕ) → resets_by s (touch.Write address byte) ≡ reset_written s address byte
unfolding resets_by resets_device
resets_written s address byte = ap (λ (named : Bool). named && bit_at byte 3) (named_exactly s address).2

clears_written : (s : Settings) (address byte : ℕ) → receive_change s (touch.Write address byte) ≡ pick (clear_written s address byte) Clear Stay
unfolding receive_change clears fifo_changes
clears_written s address byte =
    ap (λ (named : Bool). pick (named && (bit_at byte 1 || differs (bit_at s.fcr 0) (bit_at byte 0))) Clear Stay) (named_exactly s address).1

write_change : (own : Bool) (l : Ledger) (address byte : ℕ)
    → change_by l.own (named_effect own l (touch.Write address byte)) ≡ pick (write_clears own l address byte) Clear Stay
write_change true l address byte =
    rw (resets_written l.own address byte) (go (reset_written l.own address byte))
  where
    go : (resets : Bool)
        → change_by l.own (pick resets Reset (Own (touch.Write address byte))) ≡ pick (resets || clear_written l.own address byte) Clear Stay
    go true = refl
    go false = clears_written l.own address byte
write_change false l address byte = rw (resets_written l.other address byte) (go (reset_written l.other address byte))
  where
    go : (resets : Bool) → change_by l.own (pick resets Reset (Other (touch.Write address byte))) ≡ pick resets Clear Stay
    go true = refl
    go false = refl

-- an event that never resets does something here only if it is this channel's
here_alone : (own : Bool) (l : Ledger) (t : Touch) {a : Change} → ((s : Settings) → resets_by s t ≡ false) → receive_change l.own t ≡ a
    → change_by l.own (named_effect own l t) ≡ pick own a Stay
here_alone true l t never here = rw (never l.own) here
here_alone false l t never here = rw (never l.other)

nothing_here : (own : Bool) (l : Ledger) (t : Touch) → ((s : Settings) → resets_by s t ≡ false) → receive_change l.own t ≡ Stay
    → change_by l.own (named_effect own l t) ≡ Stay
nothing_here true l t never here = rw (never l.own) here
nothing_here false l t never here = rw (never l.other)

offered_by : (l : Ledger) (byte mark : ℕ) → receive_change l.own (touch.Arrival byte mark) ≡ offered l byte mark
unfolding receive_change arrived_byte cut_to fate_number does_pass
offered_by l byte mark = go (heard_of l.own byte mark).gate (keeps l.tally (room_of l.own))
  where
    go : (g : Gate) (kept : Bool)
        → pick (does_pass g) (Add (record { byte = as_queued l.own byte mark; mark = mark })) Stay
        ≡ pick (ltb (fate_number g kept) 2) (Add (record { byte = as_queued l.own byte mark; mark = mark })) Stay
    go gate.Passes true = refl
    go gate.Passes false = refl
    go gate.Off kept = refl
    go gate.Elsewhere kept = refl
    go gate.Xoff kept = refl
    go gate.Xon kept = refl

touch_change_lem : (own : Bool) (l : Ledger) (t : Touch) → change_by l.own (named_effect own l t) ≡ touch_change own l t
unfolding resets_by receive_change
touch_change_lem own l (touch.Write address byte) = write_change own l address byte
touch_change_lem own l (touch.Read address) =
    here_alone own l (touch.Read address) (λ s. refl) (ap (λ (named : Bool). pick named Take Stay) (named_exactly l.own address).0)
touch_change_lem own l (touch.Arrival byte mark) = here_alone own l (touch.Arrival byte mark) (λ s. refl) (offered_by l byte mark)
touch_change_lem own l touch.Slot = nothing_here own l touch.Slot (λ s. refl) refl
touch_change_lem own l (touch.Pins value) = nothing_here own l (touch.Pins value) (λ s. refl) refl
touch_change_lem own l touch.Quiet = nothing_here own l touch.Quiet (λ s. refl) refl
touch_change_lem own l touch.RtsLook = nothing_here own l touch.RtsLook (λ s. refl) refl

-- the receive queue is cleared by a kind 6, by a write to an open IOControl with bit 3 through either channel, and by an FCR write
-- to this channel with bit 1 set or that changes bit 0; a read of RHR takes from it; what passes is offered to it
pub change_exactly : (w : Side) (l : Ledger) (m : Made) → change_by l.own (effect_on w l m) ≡ change_of w l m
change_exactly w l (Ok (event.At channel t)) = touch_change_lem (is_side w (side_numbered channel)) l t
change_exactly w l (Ok event.Reset) = refl
change_exactly w l (Ok event.IrqLook) = refl
change_exactly w l (Err r) = refl

-- what is kept is the byte so cut, with its mark, exactly if the fate is 0; no arrival is a read
pub kept_exactly : (l : Ledger) (byte mark : ℕ)
    → (ledger_after l (Own (touch.Arrival byte mark))).tally
    ≡ record {
      kept = pick (eqb (fate_by l byte mark) 0) (l.tally.kept ++ (record { byte = as_queued l.own byte mark; mark = mark } ∷ [])) l.tally.kept;
      read = l.tally.read;
    }
unfolding ledger_after tally_after fate_number
kept_exactly l byte mark = rw (offered_by l byte mark) (go (heard_of l.own byte mark).gate (keeps l.tally (room_of l.own)) refl)
  where
    go : (g : Gate) (kept : Bool) → keeps l.tally (room_of l.own) ≡ kept
        → tally_after l.tally (pick (ltb (fate_number g kept) 2) (Add (record { byte = as_queued l.own byte mark; mark = mark })) Stay) (room_of l.own)
        ≡ record {
          kept = pick (eqb (fate_number g kept) 0) (l.tally.kept ++ (record { byte = as_queued l.own byte mark; mark = mark } ∷ [])) l.tally.kept;
          read = l.tally.read;
        }
    go gate.Passes true e = rw e
    go gate.Passes false e = rw e
    go gate.Off kept e = refl
    go gate.Elsewhere kept e = refl
    go gate.Xoff kept e = refl
    go gate.Xon kept e = refl

module _ (s : Settings) (byte mark : ℕ) where
  setting_heard : (heard_of s byte mark).setting ≡ pick (is_address s mark) (Some (efcr_heard s byte mark)) None
  unfolding heard_of mode_of heard_plain heard_ninth as_data heard_address equals_xoff2 arrived_byte cut_to receiver_set
  setting_heard = go (bit_at s.efcr 0) refl (bit_at s.efr 5) refl (bit_at mark 0) refl (eqb (as_queued s byte mark) s.xoff2) refl
    where
      go : (ninth : Bool) → bit_at s.efcr 0 ≡ ninth → (detect : Bool) → bit_at s.efr 5 ≡ detect → (bit : Bool) → bit_at mark 0 ≡ bit
          → (equal : Bool) → eqb (as_queued s byte mark) s.xoff2 ≡ equal
          → (heard_of s byte mark).setting
          ≡ pick (ninth && detect && bit) (Some (record { register = register.Efcr; byte = replaced_at s.efcr (pick equal 0 2) 1 1 })) None
      go false n detect d bit b equal e = rw n
      go true n false d true b equal e = rw (n, d, b)
      go true n false d false b equal e = rw (n, d, b)
      go true n true d true b true e = rw (n, d, b, e)
      go true n true d true b false e = rw (n, d, b, e)
      go true n true d false b equal e = rw (n, d, b)

  pub arrival_sets : settings_after s (touch.Arrival byte mark) ≡ pick (is_address s mark) (with_setting s (efcr_heard s byte mark)) s
  unfolding settings_after setting_by
  arrival_sets = rw setting_heard (go (is_address s mark))
    where
      go : (address : Bool) → with_any s (pick address (Some (efcr_heard s byte mark)) None) ≡ pick address (with_setting s (efcr_heard s byte mark)) s
      go true = refl
      go false = refl
