-- Phases: which postings each takes.
use Rattle.std.specs.Prelude.{Bool, true, false}
use Rattle.prices.specs.declared.price.Market.{Market}
use Rattle.prices.specs.declared.price.Market.TheVariants.{DayAhead, RealTime}
use Rattle.postings.specs.declared.phase.Phase.{Phase}
use Rattle.postings.specs.declared.phase.Phase.TheVariants.{Void, DayAheadOpen, RealTimeOpen, Settled}

-- the two are the same phase
abbrev pub same_phase : Phase → Phase → Bool
same_phase Void Void = true
same_phase DayAheadOpen DayAheadOpen = true
same_phase RealTimeOpen RealTimeOpen = true
same_phase Settled Settled = true
same_phase _ _ = false

-- the phase in which postings of a market are taken and revised
abbrev pub open_phase : Market → Phase
open_phase DayAhead = DayAheadOpen
open_phase RealTime = RealTimeOpen

abbrev pub takes : Phase → Market → Bool
takes f m = same_phase f (open_phase m)
