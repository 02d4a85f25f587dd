-- Laws: a chain of lent steps and drains from a new device on, as box code makes them through C, is a log of a new device: demand 3
-- holds of what these answer and of the record that lies there.
use Rattle.std.specs.Prelude.{ℕ, zero, suc, ◌<◌, ◌≡◌, refl, List, [], ◌∷◌, ◌++◌, map, length, take, drop, replicate}
use Rattle.std.proofs.Common.{arith, sym, ap, ◌∙◌}
use Rattle.event.specs.declared.events.Event.TheVariants as event
use Rattle.event.specs.declared.events.Touch.{Touch}
use Rattle.event.specs.Events.{numbers_at, made_of, judged_of, TouchIn, Made}
use Rattle.event.specs.Laws.{in_range_judged}
use Rattle.device.specs.declared.side.Side.{Side}
use Rattle.device.specs.declared.side.Side.TheVariants as side
use Rattle.device.specs.declared.device.Device.{Device}
use Rattle.device.specs.Reset.{new_device}
use Rattle.device.specs.Device.{answered_of, answer_number}
use Rattle.device.specs.Laws.{made_in, judged_in}
use Rattle.lent.specs.declared.drains.Drained.{Drained}
use Rattle.lent.specs.Lent.{Advanced}
use Rattle.lent.specs.Drain.{read_rhr, single_read, after_reads, replies_of, part_length, drained_of, part_of, filled_by, Emptied}
use Rattle.lent.specs.DrainLaws.{part_count}
use Rattle.lent.proofs.Emptied.{in_front, device_left}
use Rattle.history.specs.Judge.{unread}
use Rattle.history.specs.Demand3.{ran_from, answers_from, AllIn, Log, OfNewDevice, number, reply_at, tally, remainder, Demand3, Alone}
use Rattle.history.proofs.Proved.{demand_3}
use Rattle.history.proofs.Alone.{alone}
use Rattle.history.specs.Drains.{drained_count}
use Rattle.history.proofs.Drains.{drains_next}
use Rattle.history.specs.Lent.{Lending, Step, Drain, Follows, left_by, events_of, answers_of, ChainFrom, Chain, last_from, lent_history, lent_answers, lent_log}

-- ---- single reads one after the other, in a history
module _ (channel : ℕ) (rest : List Made) where
  abbrev reads_then : ℕ → List Made
  reads_then n = replicate n (judged_of (event.At channel read_rhr)) ++ rest

  reads_answered : (n : ℕ) (d : Device)
      → map answer_number (answers_from d (reads_then n))
      ≡ replies_of d channel n ++ map answer_number (answers_from (after_reads d channel n) rest)
  unfolding replies_of after_reads
  reads_answered zero d = refl
  reads_answered (suc n) d =
      ap (λ numbers. answer_number (single_read d channel).answer ∷ numbers) (reads_answered n (single_read d channel).device)

  reads_ran : (n : ℕ) (d : Device) → ran_from d (reads_then n) ≡ ran_from (after_reads d channel n) rest
  unfolding after_reads
  reads_ran zero d = refl
  reads_ran (suc n) d = reads_ran n (single_read d channel).device

  reads_in : (n : ℕ) → AllIn rest → AllIn (reads_then n)
  reads_in zero range = range
  reads_in (suc n) range = (judged_in (event.At channel read_rhr), reads_in n range)

-- ---- a chain says what the history by value says
events_answered : (lending : Lending) (d : Device) (rest : List Made) → Follows d lending
    → answers_of lending ++ map answer_number (answers_from (left_by lending) rest)
    ≡ map answer_number (answers_from d (events_of lending ++ rest))
unfolding part_of drained_of
events_answered (Step given answer left) d rest h = rw (h.0, h.1)
events_answered (Drain channel most room part left) d rest h =
    rw (h.0, part_count d channel most room, h.1) (sym (reads_answered channel rest (part_length d channel most room) d))

events_ran : (lending : Lending) (d : Device) (rest : List Made) → Follows d lending
    → ran_from (left_by lending) rest ≡ ran_from d (events_of lending ++ rest)
unfolding part_of drained_of
events_ran (Step given answer left) d rest h = ap (λ (e : Device). ran_from e rest) h.1
events_ran (Drain channel most room part left) d rest h =
    rw (h.0, part_count d channel most room, h.1) (sym (reads_ran channel rest (part_length d channel most room) d))

events_in : (lending : Lending) (rest : List Made) → AllIn rest → AllIn (events_of lending ++ rest)
events_in (Step given answer left) rest range = (made_in given.kind given.x given.y given.z, range)
events_in (Drain channel most room part left) rest range = reads_in channel rest (length part) range

chain_answered : (chain : List Lending) (d : Device) → ChainFrom d chain
    → lent_answers chain ≡ map answer_number (answers_from d (lent_history chain))
chain_answered [] d h = refl
chain_answered (lending ∷ chain) d h =
    ap (λ numbers. answers_of lending ++ numbers) (chain_answered chain (left_by lending) h.1)
    ∙ events_answered lending d (lent_history chain) h.0

chain_ran : (chain : List Lending) (d : Device) → ChainFrom d chain → last_from d chain ≡ ran_from d (lent_history chain)
chain_ran [] d h = refl
chain_ran (lending ∷ chain) d h = chain_ran chain (left_by lending) h.1 ∙ events_ran lending d (lent_history chain) h.0

chain_in : (chain : List Lending) → AllIn (lent_history chain)
chain_in [] = tt
chain_in (lending ∷ chain) = events_in lending (lent_history chain) (chain_in chain)

pub lent_of_new_device : (chain : List Lending) → Chain chain → OfNewDevice (lent_log chain)
lent_of_new_device chain h =
    record { range = chain_in chain; same = rw (chain_answered chain new_device h, chain_ran chain new_device h) }

pub demand_3_of_lent : (w : Side) (chain : List Lending) → Chain chain → Demand3 w (lent_log chain)
demand_3_of_lent w chain h = demand_3 w (lent_log chain) (lent_of_new_device chain h)

pub alone_of_lent : (w : Side) (chain another : List Lending) → Chain chain → Chain another
    → remainder w (lent_history chain) ≡ remainder w (lent_history another) → Alone w (lent_log chain) (lent_log another)
alone_of_lent w chain another h h' same =
    alone w (lent_log chain) (lent_log another) (lent_of_new_device chain h) (lent_of_new_device another h') same

-- ---- what demand 3 calls the reply to one more event is what one more lent step answers
number_in : (w : Side) → number w < 2
number_in side.A = omega arith
number_in side.B = omega arith

pub lent_reply : (w : Side) (log : Log) (t : Touch) → TouchIn t → (left : Device) (answer : ℕ)
    → Advanced log.device (made_of (numbers_at (number w) t)) left answer → answer ≡ reply_at w log t
unfolding answered_of answer_number judged_of
lent_reply w log t range left answer step =
    step.0
    ∙ ap (λ (m : Made). answer_number (answered_of log.device m).answer) (in_range_judged (event.At (number w) t) (number_in w, range))

-- ---- a drain through C tells how many bytes it put into the buffer: the front that is so long is the part
pub lent_drain : (before : Device) (channel most : ℕ) (buffer filled : List ℕ) (left : Drained)
    → Emptied before channel most buffer left filled → Follows before (Drain channel most (length buffer) (take left.count filled) left.device)
lent_drain before channel most buffer filled left emptied =
    (in_front before channel most buffer filled left emptied, device_left before channel most buffer filled left emptied)

-- after every history these are the next characters kept and not yet read, and behind them the buffer holds what it held
pub lent_filled : (w : Side) (log : Log) → OfNewDevice log → (most : ℕ) (buffer filled : List ℕ) (left : Drained)
    → Emptied log.device (number w) most buffer left filled
    → (left.count ≡ drained_count w log most (length buffer))
    × (filled ≡ map (λ c. c.byte) (take left.count (unread (tally w log))) ++ drop left.count buffer)
unfolding drained_of filled_by
lent_filled w log of most buffer filled left emptied =
    let next = drains_next w log most (length buffer) of in
    let counted : left.count ≡ drained_count w log most (length buffer) = rw emptied.left_is next.count in
    (counted, rw (emptied.filled_is, next.part, next.count, counted))
