-- A weight is told by its number of units.
use Rattle.std.proofs.Common.{◌≡◌, ℤ, ap}
use Rattle.measures.specs.declared.amounts.Kilowatts.{Kilowatts}
use Rattle.measures.specs.declared.amounts.MegawattHours.{MegawattHours}

pub same_energy : (w : MegawattHours) (z : ℤ) → w.0 ≡ z → w ≡ record { 0 = z }
same_energy w z e = ap (λ (u : ℤ). record { 0 = u }) e

pub same_power : (w : Kilowatts) (z : ℤ) → w.0 ≡ z → w ≡ record { 0 = z }
same_power w z e = ap (λ (u : ℤ). record { 0 = u }) e
