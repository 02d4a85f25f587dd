-- For proofs alone: what reads and arrivals reply, by the list that the receive queue stands for.
use Rattle.std.specs.Prelude.{ℕ, ◌+◌, ◌*◌, ◌/◌, ◌%◌, ◌<◌, ◌≤◌, ◌≡◌, refl, Bool, true, false, length, get_or, eqb, ltb}
use Rattle.std.proofs.Common.{arith, ◌∙◌}
use Rattle.std.proofs.Math.Path.{sym, ap}
use Rattle.std.proofs.Math.Bool.{not}
use Rattle.bits.specs.Choice.{pick, pick_by}
use Rattle.bits.specs.Bits.{one_if, part_at, bit_at}
use Rattle.bits.specs.Laws.{flag_in}
use Rattle.queue.specs.declared.Character.{Character}
use Rattle.queue.specs.Change.{Change, Add, Take, Stay}
use Rattle.queue.specs.Queue.{none, moved_by, oldest_of}
use Rattle.queue.specs.List.{items, some_mark}
use Rattle.queue.specs.Laws.{length_items, added_kept, oldest_head, any_mark_items}
use Rattle.event.specs.declared.events.Event.TheVariants as event
use Rattle.event.specs.declared.events.Touch.{Touch}
use Rattle.event.specs.declared.events.Touch.TheVariants as touch
use Rattle.registers.specs.declared.register.Register.{Register}
use Rattle.registers.specs.declared.register.Register.TheVariants as register
use Rattle.registers.specs.Windows.{same, register_at}
use Rattle.levels.specs.Queues.{room_of, clears}
use Rattle.registers.specs.Laws.{same_is}
use Rattle.receiver.specs.declared.arrival.Gate.{Gate}
use Rattle.receiver.specs.declared.arrival.Gate.TheVariants as gate
use Rattle.receiver.specs.declared.line.Status.{Status}
use Rattle.receiver.specs.Arrivals.{does_pass, heard_of}
use Rattle.receiver.specs.Line.{fate_number, lsr_of}
use Rattle.interrupts.specs.declared.interrupt.Interrupt.{Interrupt}
use Rattle.channel.specs.declared.channel.Channel.{Channel}
use Rattle.channel.specs.Channel.{WellFormed, shown_at, status_of, read_of}
use Rattle.channel.specs.Laws.{mark_shown_in}
use Rattle.acts.specs.Touches.{arrived_character, receive_change, resets_by}
use Rattle.acts.specs.Acts.{received, act_with, read_act, arrival_act, act_of}
use Rattle.channel.specs.Settle.{settled_of}
use Rattle.acts.specs.Step.{step_at}
use Rattle.device.specs.declared.side.Side.{Side}
use Rattle.device.specs.declared.side.Side.TheVariants as side
use Rattle.device.specs.declared.device.Device.{Device}
use Rattle.device.specs.Device.{channel_at, side_numbered, touched_at, named_step, step_of}
use Rattle.history.specs.Demand3.{number}

-- ---- the bits of LSR
lsr_parts : (a b m c d e : ℕ) → a ≤ 1 → b ≤ 1 → m < 8 → c ≤ 1 → d ≤ 1 → e ≤ 1
    → ((a + b * 2 + m * 4 + c * 32 + d * 64 + e * 128) / 4 % 8 ≡ m)
    × ((a + b * 2 + m * 4 + c * 32 + d * 64 + e * 128) / 1 % 2 ≡ a)
    × ((a + b * 2 + m * 4 + c * 32 + d * 64 + e * 128) / 128 % 2 ≡ e)
lsr_parts a b m c d e ha hb hm hc hd he = omega arith

flag_set : (condition : Bool) → eqb (one_if condition) 1 ≡ condition
unfolding one_if
flag_set true = refl
flag_set false = refl

module _ (l : Status) (mark_in : l.mark < 8) where
  parts : ((lsr_of l / 4 % 8 ≡ l.mark) × (lsr_of l / 1 % 2 ≡ one_if l.ready) × (lsr_of l / 128 % 2 ≡ one_if l.error))
  unfolding lsr_of
  parts =
      lsr_parts (one_if l.ready) (one_if l.overrun) l.mark (one_if l.sent) (one_if l.idle) (one_if l.error)
      (flag_in l.ready) (flag_in l.overrun) mark_in (flag_in l.sent) (flag_in l.idle) (flag_in l.error)

  pub lsr_marks : part_at (lsr_of l) 2 3 ≡ l.mark
  unfolding part_at
  lsr_marks = parts.0

  pub lsr_ready : bit_at (lsr_of l) 0 ≡ l.ready
  unfolding bit_at part_at
  lsr_ready = rw parts.1 (flag_set l.ready)

  pub lsr_error : bit_at (lsr_of l) 7 ≡ l.error
  unfolding bit_at part_at
  lsr_error = rw parts.2 (flag_set l.error)

-- ---- a read goes to the register that its address names
pub side_number : (w : Side) → side_numbered (number w) ≡ w
unfolding side_numbered
side_number side.A = refl
side_number side.B = refl

pub channel_read : (ch : Channel) (address : ℕ) (r : Register) → register_at ch.settings address ≡ r
    → (step_at ch (touch.Read address)).reply ≡ read_of ch r (shown_at ch r)
unfolding step_at settled_of act_of act_with read_act
channel_read ch address r named = rw named

module _ (d : Device) (w : Side) where
  pub read_reply_lem : (address : ℕ) (r : Register) → register_at (channel_at d w).settings address ≡ r
      → (step_of d (event.At (number w) (touch.Read address))).reply ≡ read_of (channel_at d w) r (shown_at (channel_at d w) r)
  unfolding step_of named_step touched_at resets_by
  read_reply_lem address r named = rw (side_number w) (channel_read (channel_at d w) address r named)

  -- an arrival's reply, where the queue keeps it or not
  pub arrival_reply_lem : (byte mark : ℕ)
      → (step_of d (event.At (number w) (touch.Arrival byte mark))).reply
      ≡ fate_number (heard_of (channel_at d w).settings byte mark).gate (received (channel_at d w) (touch.Arrival byte mark)).kept
  unfolding step_of named_step touched_at resets_by step_at settled_of act_of act_with arrival_act
  arrival_reply_lem byte mark = rw (side_number w)

-- what passes is kept exactly if fewer than room are queued
pub fate_kept : (ch : Channel) (byte mark : ℕ)
    → fate_number (heard_of ch.settings byte mark).gate (received ch (touch.Arrival byte mark)).kept
    ≡ fate_number (heard_of ch.settings byte mark).gate (ltb (length (items ch.rx)) (room_of ch.settings))
unfolding fate_number does_pass moved_by receive_change
fate_kept ch byte mark = go (heard_of ch.settings byte mark).gate (arrived_character ch.settings byte mark)
  where
    go : (g : Gate) (c : Character)
        → fate_number g (moved_by ch.rx (pick (does_pass g) (Add c) Stay) (room_of ch.settings)).kept
        ≡ fate_number g (ltb (length (items ch.rx)) (room_of ch.settings))
    go gate.Passes c = ap (fate_number gate.Passes) (added_kept ch.rx c (room_of ch.settings))
    go gate.Off c = refl
    go gate.Elsewhere c = refl
    go gate.Xoff c = refl
    go gate.Xon c = refl

-- only a read of the receive register takes a character, and it replies with the oldest
pub taken_reply : (ch : Channel) (t : Touch) → receive_change ch.settings t ≡ Take → (step_at ch t).reply ≡ (oldest_of ch.rx).byte
unfolding receive_change read_of
taken_reply ch (touch.Write address byte) =
    pick_by (λ (a : Change). a ≡ Take → (step_at ch (touch.Write address byte)).reply ≡ (oldest_of ch.rx).byte)
    (clears ch.settings (register_at ch.settings address) byte 1) (λ _ e. cc) (λ _ e. cc)
taken_reply ch (touch.Read address) =
    pick_by (λ (a : Change). a ≡ Take → (step_at ch (touch.Read address)).reply ≡ (oldest_of ch.rx).byte)
    (same (register_at ch.settings address) register.RhrThr)
    (λ h e. channel_read ch address register.RhrThr (same_is (register_at ch.settings address) register.RhrThr h))
    (λ _ e. cc)
taken_reply ch (touch.Arrival byte mark) =
    pick_by (λ (a : Change). a ≡ Take → (step_at ch (touch.Arrival byte mark)).reply ≡ (oldest_of ch.rx).byte)
    (does_pass (heard_of ch.settings byte mark).gate) (λ _ e. cc) (λ _ e. cc)
taken_reply ch touch.Slot = λ e. cc
taken_reply ch (touch.Pins value) = λ e. cc
taken_reply ch touch.Quiet = λ e. cc
taken_reply ch touch.RtsLook = λ e. cc

-- ---- what a channel's reads give, by the list that its receive queue stands for
module _ (ch : Channel) (ok : WellFormed ch) (shown : Interrupt) where
  pub rhr_read : read_of ch register.RhrThr shown ≡ (get_or (items ch.rx) 0 none).byte
  unfolding read_of
  rhr_read = ap (λ (c : Character). c.byte) (oldest_head ch.rx ok.rx_in)

  pub rxlvl_read : read_of ch register.Rxlvl shown ≡ length (items ch.rx)
  unfolding read_of
  rxlvl_read = sym (length_items ch.rx)

  pub lsr_marks_read : part_at (read_of ch register.Lsr shown) 2 3 ≡ (get_or (items ch.rx) 0 none).mark
  unfolding read_of status_of
  lsr_marks_read = lsr_marks (status_of ch) (mark_shown_in ch ok) ∙ ap (λ (c : Character). c.mark) (oldest_head ch.rx ok.rx_in)

  pub lsr_ready_read : bit_at (read_of ch register.Lsr shown) 0 ≡ not (eqb (length (items ch.rx)) 0)
  unfolding read_of status_of
  lsr_ready_read = lsr_ready (status_of ch) (mark_shown_in ch ok) ∙ ap (λ (n : ℕ). not (eqb n 0)) (sym (length_items ch.rx))

  pub lsr_error_read : bit_at (read_of ch register.Lsr shown) 7 ≡ some_mark (items ch.rx)
  unfolding read_of status_of
  lsr_error_read = lsr_error (status_of ch) (mark_shown_in ch ok) ∙ any_mark_items ch.rx
