-- Laws: demand 3 holds of every history.
use Rattle.std.specs.Prelude.{ℕ, ◌≡◌, not, List, [], ◌∷◌, map, length, get_or, eqb, ltb}
use Rattle.std.proofs.Common.{add-zero, arith, ap, ◌∙◌, length-drop, get_or-drop}
use Rattle.std.proofs.Math.Path.{refl}
use Rattle.std.proofs.Math.ListN.{get_or-eq_default}
use Rattle.bits.specs.Bits.{bit_at, part_at}
use Rattle.queue.specs.declared.Character.{Character}
use Rattle.queue.specs.Change.{Take}
use Rattle.queue.specs.Queue.{none, oldest_of}
use Rattle.queue.specs.List.{items, some_mark}
use Rattle.queue.specs.Laws.{oldest_head}
use Rattle.event.specs.declared.events.Event.TheVariants as event
use Rattle.event.specs.Events.{Made}
use Rattle.event.specs.declared.events.Touch.TheVariants as touch
use Rattle.registers.specs.declared.register.Register.{Register}
use Rattle.registers.specs.declared.register.Register.TheVariants as register
use Rattle.registers.specs.declared.settings.Settings.{Settings}
use Rattle.registers.specs.Windows.{register_at}
use Rattle.levels.specs.Queues.{room_of}
use Rattle.receiver.specs.Arrivals.{heard_of}
use Rattle.receiver.specs.Line.{fate_number}
use Rattle.channel.specs.declared.channel.Channel.{Channel}
use Rattle.channel.specs.Channel.{WellFormed, shown_at, read_of}
use Rattle.device.specs.declared.side.Side.{Side}
use Rattle.device.specs.declared.device.Device.{Device}
use Rattle.device.specs.Reset.{new_device}
use Rattle.device.specs.Device as device
use Rattle.device.specs.Device.{channel_at, step_of, answered_of, answer_number}
use Rattle.device.specs.Laws.{well_formed_new, well_formed_at, well_formed_answered}
use Rattle.history.specs.Judge.{queued, unread, keeps, finds, Ledger, fresh_ledger, Effect, Own, Other, Reset, Nothing, effect_on, change_by, ledger_after, judged_by, judged_from, judgement}
use Rattle.history.specs.Demand3.{ran, answers_from, AllIn, Log, log_of, OfNewDevice, number, found_after, found_from, Demand3}
use Rattle.history.proofs.Tally.{holds_count}
use Rattle.history.specs.Seen.{number_for}
use Rattle.history.proofs.Seen.{own_reply}
use Rattle.history.specs.Agreement.{Agrees}
use Rattle.history.proofs.Agreement.{agrees_answered, agrees_new, agreement, well_formed_ran}
use Rattle.history.specs.Reads.{read_reply_lem, arrival_reply_lem, fate_kept, taken_reply, rhr_read, rxlvl_read, lsr_marks_read, lsr_ready_read, lsr_error_read}
use Rattle.history.specs.Order.{InOrder}
use Rattle.history.proofs.Order.{in_order_after}

module _ (w : Side) (d : Device) (l : Ledger) (ok : device.WellFormed d) (h : Agrees w d l) where
  abbrev ch : Channel
  ch = channel_at d w

  ch_in : WellFormed ch
  ch_in = well_formed_at d w ok

  -- what the receive queue stands for is what is unread
  by_unread : {A : Type 0} (f : List Character → A) → f (items ch.rx) ≡ f (unread l.tally)
  by_unread f = ap f h.holds.same

  unread_count : length (unread l.tally) ≡ queued l.tally
  unread_count = length-drop l.tally.read l.tally.kept

  next_unread : get_or (unread l.tally) 0 none ≡ get_or l.tally.kept l.tally.read none
  next_unread = rw add-zero at (get_or-drop l.tally.read l.tally.kept 0 none)

  none_unread : queued l.tally ≡ 0 → get_or (unread l.tally) 0 none ≡ none
  none_unread empty = get_or-eq_default (unread l.tally) none (omega (arith, unread_count))

  -- ---- an event that takes a character is a read of it
  oldest_next : (oldest_of ch.rx).byte ≡ (get_or l.tally.kept l.tally.read none).byte
  oldest_next =
      ap (λ (c : Character). c.byte) (oldest_head ch.rx ch_in.rx_in ∙ by_unread (λ cs. get_or cs 0 none) ∙ next_unread)

  taken_by_lem : (m : Made) (f : Effect) → effect_on w l m ≡ f → change_by l.own f ≡ Take → number_for d m ≡ (oldest_of ch.rx).byte
  taken_by_lem m (Own t) e takes = own_reply w d l h.same m t e ∙ taken_reply ch t (rw h.same.own takes)
  taken_by_lem m (Other t) e takes = cc
  taken_by_lem m Reset e takes = cc
  taken_by_lem m Nothing e takes = cc

  in_order_step : (m : Made) (found : List ℕ) → InOrder l.tally found
      → InOrder (judged_by w l m).tally (found_after (change_by l.own (effect_on w l m)) l.tally (number_for d m) found)
  unfolding judged_by ledger_after
  in_order_step m found o =
      in_order_after (change_by l.own (effect_on w l m)) (room_of l.own) l.tally (number_for d m) found h.holds.within
      (λ takes. taken_by_lem m (effect_on w l m) refl takes ∙ oldest_next) o

  -- ---- what reads and arrivals reply, by the judge
  reply_of : (address : ℕ) (r : Register) → register_at l.own address ≡ r
      → (step_of d (event.At (number w) (touch.Read address))).reply ≡ read_of ch r (shown_at ch r)
  reply_of address r named = read_reply_lem d w address r (ap (λ (s : Settings). register_at s address) h.same.own ∙ named)

  next_byte : (address : ℕ) → register_at l.own address ≡ register.RhrThr
      → (step_of d (event.At (number w) (touch.Read address))).reply ≡ (get_or (unread l.tally) 0 none).byte
  next_byte address named =
      reply_of address register.RhrThr named ∙ rhr_read ch ch_in (shown_at ch register.RhrThr) ∙ by_unread (λ cs. (get_or cs 0 none).byte)

  level_read : (address : ℕ) → register_at l.own address ≡ register.Rxlvl
      → (step_of d (event.At (number w) (touch.Read address))).reply ≡ queued l.tally
  level_read address named =
      reply_of address register.Rxlvl named ∙ rxlvl_read ch ch_in (shown_at ch register.Rxlvl) ∙ by_unread length ∙ unread_count

  module _ (address : ℕ) (named : register_at l.own address ≡ register.Lsr) where
    abbrev lsr : ℕ
    lsr = (step_of d (event.At (number w) (touch.Read address))).reply

    is_lsr : lsr ≡ read_of ch register.Lsr (shown_at ch register.Lsr)
    is_lsr = reply_of address register.Lsr named

    error_bits_read : part_at lsr 2 3 ≡ (get_or (unread l.tally) 0 none).mark
    error_bits_read =
        ap (λ (n : ℕ). part_at n 2 3) is_lsr ∙ lsr_marks_read ch ch_in (shown_at ch register.Lsr) ∙ by_unread (λ cs. (get_or cs 0 none).mark)

    ready_read : bit_at lsr 0 ≡ finds l.tally
    ready_read =
        ap (λ (n : ℕ). bit_at n 0) is_lsr
        ∙ lsr_ready_read ch ch_in (shown_at ch register.Lsr)
        ∙ ap (λ (n : ℕ). not (eqb n 0)) (by_unread length ∙ unread_count)

    any_error_read : bit_at lsr 7 ≡ some_mark (unread l.tally)
    any_error_read = ap (λ (n : ℕ). bit_at n 7) is_lsr ∙ lsr_error_read ch ch_in (shown_at ch register.Lsr) ∙ by_unread some_mark

  judged_fate : (byte mark : ℕ)
      → (step_of d (event.At (number w) (touch.Arrival byte mark))).reply
      ≡ fate_number (heard_of l.own byte mark).gate (keeps l.tally (room_of l.own))
  judged_fate byte mark =
      arrival_reply_lem d w byte mark
      ∙ fate_kept ch byte mark
      ∙ ap (λ (n : ℕ). fate_number (heard_of ch.settings byte mark).gate (ltb n (room_of ch.settings))) (by_unread length ∙ unread_count)
      ∙ ap (λ (s : Settings). fate_number (heard_of s byte mark).gate (ltb (queued l.tally) (room_of s))) h.same.own

-- ---- over every history
in_order_run : (w : Side) (history : List Made) (d : Device) (l : Ledger) (found : List ℕ) → AllIn history → device.WellFormed d → Agrees w d l → InOrder l.tally found
    → InOrder (judged_from w l history).tally (found_from w l found history (map answer_number (answers_from d history)))
in_order_run w [] d l found range ok h o = o
in_order_run w (m ∷ history) d l found range ok h o =
    in_order_run w history (answered_of d m).device (judged_by w l m) (found_after (change_by l.own (effect_on w l m)) l.tally (number_for d m) found) range.1
    (well_formed_answered d m range.0 ok) (agrees_answered w d l m ok h) (in_order_step w d l ok h m found o)

by_value : (w : Side) (history : List Made) → AllIn history → Demand3 w (log_of history)
by_value w history range =
    record {
      within = h.holds.within;
      reads_in_order = in_order_run w history new_device fresh_ledger [] range well_formed_new (agrees_new w) refl;
      next_read = λ address named _. next_byte w d l ok h address named ∙ ap (λ (c : Character). c.byte) (next_unread w d l ok h);
      no_read = λ address named empty. next_byte w d l ok h address named ∙ ap (λ (c : Character). c.byte) (none_unread w d l ok h empty);
      level = holds_count h.holds;
      rxlvl = level_read w d l ok h;
      error_bits = error_bits_read w d l ok h;
      ready = ready_read w d l ok h;
      any_error = any_error_read w d l ok h;
      fate = judged_fate w d l ok h;
    }
  where
    d : Device
    d = ran history

    l : Ledger
    l = judgement w history

    ok : device.WellFormed d
    ok = well_formed_ran history range

    h : Agrees w d l
    h = agreement w history range

-- a log of a new device is one by value
pub by_log : (P : Log → Type 0) (log : Log) → OfNewDevice log → P (log_of log.history) → P log
by_log P log of h = rw of.same h

pub demand_3 : (w : Side) (log : Log) → OfNewDevice log → Demand3 w log
demand_3 w log of = by_log (Demand3 w) log of (by_value w log.history of.range)
