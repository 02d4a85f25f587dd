-- For proofs alone: at a count that only falls, a latch that its rule has made turns on at most, so RTS does not go from asserted to
-- not; and a count passed on the way leaves no trace.
use Rattle.std.specs.Prelude.{◌≤◌, ◌≡◌, refl, Bool, true, false, not}
use Rattle.std.proofs.Common.{arith, sym, ap, ◌∙◌}
use Rattle.std.proofs.lemmas.Bool.{le-leb, leb-true}
use Rattle.bits.specs.Choice.{pick, apart}
use Rattle.bits.specs.Bits.{bit_at, differs}
use Rattle.registers.specs.declared.pair.Pair.{Pair}
use Rattle.registers.specs.declared.settings.Settings.{Settings}
use Rattle.registers.specs.Pairs.{chooses_pair}
use Rattle.levels.specs.declared.trigger.Characters.{Characters}
use Rattle.levels.specs.Levels.{halt_level, resume_level}
use Rattle.lines.specs.Laws.{driven_once}
use Rattle.lines.specs.Rts.{halt_reached, resume_reached, latch_driven, latch_after, rts_of}
use Rattle.flow.specs.declared.flow.Flow.{Flow}
use Rattle.flow.specs.Flow.{flow_turned, flow_settled}
use Rattle.flow.specs.Laws.{turned_latch}

-- ---- a lower count reaches halt only where the higher does, and is at resume wherever the higher is
module _ (s : Settings) (fewer more : Characters) (less : fewer.0 ≤ more.0) where
  halt_before : halt_reached s fewer ≡ true → halt_reached s more ≡ true
  unfolding halt_reached
  halt_before h = le-leb (halt_level s).0 more.0 (omega (arith, leb-true (halt_level s).0 fewer.0 h))

  resume_still : resume_reached s more ≡ true → resume_reached s fewer ≡ true
  unfolding resume_reached
  resume_still h = le-leb fewer.0 (resume_level s).0 (omega (arith, leb-true more.0 (resume_level s).0 h))

-- ---- the rule itself, for a latch that it has made at a count
module _ (s : Settings) (made between : Characters) (latch : Bool) (ruled : latch_driven s made latch ≡ latch) (less : between.0 ≤ made.0) where
  off_at_halt : halt_reached s between ≡ true → latch ≡ false
  unfolding latch_driven
  off_at_halt h = sym (rw (halt_before s between made less h) at ruled)

  driven_on : latch ≡ true → latch_driven s between latch ≡ true
  unfolding latch_driven
  driven_on on = go (halt_reached s between) (resume_reached s between) off_at_halt
    where
      go : (halt resume : Bool) → (halt ≡ true → latch ≡ false) → pick halt false (pick resume true latch) ≡ true
      go true resume off = sym (off refl) ∙ on
      go false true off = refl
      go false false off = on

  driven_passed_over : (now : Characters) → now.0 ≤ between.0 → latch_driven s now (latch_driven s between latch) ≡ latch_driven s now latch
  unfolding latch_driven
  driven_passed_over now fewer =
      go (halt_reached s now) (resume_reached s now) (halt_reached s between) (resume_reached s between) off_at_halt (resume_still s now between fewer)
    where
      go : (halt resume halted resumed : Bool) → (halted ≡ true → latch ≡ false) → (resumed ≡ true → resume ≡ true)
          → pick halt false (pick resume true (pick halted false (pick resumed true latch))) ≡ pick halt false (pick resume true latch)
      go true resume halted resumed off still = refl
      go false resume true resumed off still = rw (off refl)
      go false resume false true off still = rw (still refl)
      go false resume false false off still = refl

-- ---- the auto-RTS latch
module _ (s : Settings) (made between : Characters) (latch : Bool) (ruled : latch_after s made latch ≡ latch) (less : between.0 ≤ made.0) where
  pub latch_on : latch ≡ true → latch_after s between latch ≡ true
  unfolding latch_after
  latch_on on = go (not (bit_at s.efr 6)) ruled
    where
      go : (clear : Bool) → pick clear true (latch_driven s made latch) ≡ latch → pick clear true (latch_driven s between latch) ≡ true
      go true h = refl
      go false h = driven_on s made between latch h less on

  pub latch_passed_over : (now : Characters) → now.0 ≤ between.0 → latch_after s now (latch_after s between latch) ≡ latch_after s now latch
  unfolding latch_after
  latch_passed_over now fewer = go (not (bit_at s.efr 6)) ruled
    where
      go : (clear : Bool) → pick clear true (latch_driven s made latch) ≡ latch
          → pick clear true (latch_driven s now (pick clear true (latch_driven s between latch))) ≡ pick clear true (latch_driven s now latch)
      go true h = refl
      go false h = driven_passed_over s made between latch h less now fewer

-- RTS goes with the latch, or not by it at all
pub rts_on : (s : Settings) (busy latch later : Bool) → (latch ≡ true → later ≡ true)
    → rts_of s latch busy ≡ true → rts_of s later busy ≡ true
unfolding rts_of
rts_on s busy latch later on = go (bit_at s.efcr 4) (bit_at s.efr 6)
  where
    go : (half auto : Bool) → pick half (differs busy (bit_at s.efcr 5)) (pick auto latch (bit_at s.mcr 1)) ≡ true
        → pick half (differs busy (bit_at s.efcr 5)) (pick auto later (bit_at s.mcr 1)) ≡ true
    go true auto h = h
    go false true h = on h
    go false false h = h

-- ---- the second latch: turned on on the way, it puts the byte to wait that it would have put later
turned_passed_over : (f : Flow) (pair : Pair) (between now : Bool) → (f.latch ≡ true → between ≡ true) → (between ≡ true → now ≡ true)
    → flow_turned (flow_turned f pair between) pair now ≡ flow_turned f pair now
unfolding flow_turned differs
turned_passed_over f pair = go f.latch refl
  where
    go : (latch : Bool) → f.latch ≡ latch → (between now : Bool) → (latch ≡ true → between ≡ true) → (between ≡ true → now ≡ true)
        → flow_turned (flow_turned f pair between) pair now ≡ flow_turned f pair now
    go true is true true on still = rw is
    go true is true false on still = absurd (apart (still refl))
    go true is false now on still = absurd (apart (on refl))
    go false is true true on still = rw is
    go false is true false on still = absurd (apart (still refl))
    go false is false now on still = rw is

module _ (f : Flow) (s : Settings) (pair : Pair) (made between now : Characters) (less : between.0 ≤ made.0) (fewer : now.0 ≤ between.0) where
  abbrev turned : Flow
  turned = flow_turned f pair (latch_driven s between f.latch)

  sent_passed_over : flow_turned f pair (latch_driven s made f.latch) ≡ f
      → flow_turned turned pair (latch_driven s now turned.latch) ≡ flow_turned f pair (latch_driven s now f.latch)
  sent_passed_over h =
      let on = latch_driven s between f.latch in
      let ruled : latch_driven s made f.latch ≡ f.latch = sym (turned_latch f pair (latch_driven s made f.latch)) ∙ ap (λ (g : Flow). g.latch) h in
      let past : latch_driven s now on ≡ latch_driven s now f.latch = driven_passed_over s made between f.latch ruled less now fewer in
      ap (λ (latch : Bool). flow_turned turned pair (latch_driven s now latch)) (turned_latch f pair on)
      ∙ ap (flow_turned turned pair) past
      ∙ turned_passed_over f pair on (latch_driven s now f.latch) (driven_on s made between f.latch ruled less)
      (λ h. sym past ∙ driven_on s between now on (driven_once s between f.latch) fewer h)

  pub flow_passed_over : flow_settled f s pair made ≡ f → flow_settled (flow_settled f s pair between) s pair now ≡ flow_settled f s pair now
  unfolding flow_settled
  flow_passed_over = go (chooses_pair s.efr 2)
    where
      go : (sends : Bool) → pick sends (flow_turned f pair (latch_driven s made f.latch)) f ≡ f
          → pick sends (flow_turned (pick sends turned f) pair (latch_driven s now (pick sends turned f).latch)) (pick sends turned f)
          ≡ pick sends (flow_turned f pair (latch_driven s now f.latch)) f
      go true h = sent_passed_over h
      go false h = refl
