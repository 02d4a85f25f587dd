-- Laws: the byte that waits stays within its bounds, a byte is put to wait exactly where the second latch turns, and settling twice
-- is settling once.
use Rattle.std.specs.Prelude.{ℕ, ◌<◌, ◌≡◌, refl, Bool, true, false}
use Rattle.std.proofs.Common.{arith, sym, ap, ◌∙◌}
use Rattle.bits.specs.Choice.{pick, pick_by}
use Rattle.bits.specs.Bits.{differs}
use Rattle.registers.specs.declared.pair.Pair.{Pair}
use Rattle.registers.specs.declared.register.Register.{Register}
use Rattle.registers.specs.declared.register.Register.TheVariants as register
use Rattle.registers.specs.declared.settings.Settings.{Settings}
use Rattle.registers.specs.Windows.{same}
use Rattle.registers.specs.Bounds.{PairIn}
use Rattle.registers.specs.Pairs.{chooses_pair}
use Rattle.levels.specs.declared.trigger.Characters.{Characters}
use Rattle.receiver.specs.declared.arrival.Gate.{Gate}
use Rattle.lines.specs.Rts.{latch_driven}
use Rattle.lines.specs.Laws.{driven_once}
use Rattle.flow.specs.declared.flow.Flow.{Flow}
use Rattle.flow.specs.Flow.{flow_heard, efr_written, flow_written, flow_sent, flow_turned, flow_settled}

-- ---- the byte that waits
module _ (f : Flow) (ok : f.byte < 256) where
  pub heard_byte_in : (s : Settings) (g : Gate) → (flow_heard f s g).byte < 256
  unfolding flow_heard
  heard_byte_in s g = ok

  pub written_byte_in : (written : Register) (byte : ℕ) → (flow_written f written byte).byte < 256
  unfolding flow_written efr_written
  written_byte_in written byte =
      pick_by (λ (g : Flow). g.byte < 256) (same written register.Efr)
      (λ _. pick_by (λ (n : ℕ). n < 256) (chooses_pair byte 2) (λ _. ok) (λ _. omega arith)) (λ _. ok)

  pub sent_byte_in : (sends : Bool) → (flow_sent f sends).byte < 256
  unfolding flow_sent
  sent_byte_in sends = pick_by (λ (n : ℕ). n < 256) sends (λ _. omega arith) (λ _. ok)

  pub settled_byte_in : (s : Settings) (pair : Pair) (received : Characters) → PairIn pair → (flow_settled f s pair received).byte < 256
  unfolding flow_settled flow_turned
  settled_byte_in s pair received h =
      pick_by (λ (g : Flow). g.byte < 256) (chooses_pair s.efr 2)
      (λ _. pick_by (λ (g : Flow). g.byte < 256) (differs f.latch (latch_driven s received f.latch))
      (λ _. pick_by (λ (n : ℕ). n < 256) (latch_driven s received f.latch) (λ _. h.xon_in) (λ _. h.xoff_in)) (λ _. ok))
      (λ _. ok)

-- ---- where the latch turns, the byte of the pair waits that it calls for; where it doesn't, nothing is put
module _ (f : Flow) (pair : Pair) (latch : Bool) where
  pub turned_puts : differs f.latch latch ≡ true
      → ((flow_turned f pair latch).waits ≡ true) × ((flow_turned f pair latch).byte ≡ pick latch pair.xon pair.xoff)
  unfolding flow_turned
  turned_puts turns = rw turns (refl, refl)

  pub unturned_stays : differs f.latch latch ≡ false → flow_turned f pair latch ≡ f
  unfolding flow_turned
  unturned_stays stays = rw stays

pub turned_latch : (f : Flow) (pair : Pair) (latch : Bool) → (flow_turned f pair latch).latch ≡ latch
unfolding flow_turned differs
turned_latch f pair latch = go f.latch latch refl
  where
    go : (old new : Bool) → f.latch ≡ old → (flow_turned f pair new).latch ≡ new
    go true true e = rw e
    go true false e = rw e
    go false true e = rw e
    go false false e = rw e

-- ---- a latch that the rule has made does not turn again
same_stays : (f : Flow) (pair : Pair) → flow_turned f pair f.latch ≡ f
unfolding flow_turned differs
same_stays f pair = go f.latch refl
  where
    go : (latch : Bool) → f.latch ≡ latch → flow_turned f pair latch ≡ f
    go true e = rw e
    go false e = rw e

pub flow_once : (f : Flow) (s : Settings) (pair : Pair) (received : Characters)
    → flow_settled (flow_settled f s pair received) s pair received ≡ flow_settled f s pair received
unfolding flow_settled
flow_once f s pair received = go (chooses_pair s.efr 2)
  where
    turned : Flow
    turned = flow_turned f pair (latch_driven s received f.latch)

    made : turned.latch ≡ latch_driven s received f.latch
    made = turned_latch f pair (latch_driven s received f.latch)

    again : latch_driven s received turned.latch ≡ turned.latch
    again = ap (latch_driven s received) made ∙ driven_once s received f.latch ∙ sym made

    go : (sends : Bool)
        → pick sends (flow_turned (pick sends turned f) pair (latch_driven s received (pick sends turned f).latch)) (pick sends turned f)
        ≡ pick sends turned f
    go true = ap (flow_turned turned pair) again ∙ same_stays turned pair
    go false = refl
