-- The worked means.
use Rattle.std.proofs.Common.{refl}
use Rattle.runs.specs.Examples.{MeanExamples}

pub means_hold : MeanExamples
means_hold below m a b p q ea eb ca cb = (simp (ea, eb, ca, cb) refl, simp (ea, eb, ca, cb) refl)
