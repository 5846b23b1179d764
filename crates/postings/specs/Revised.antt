-- Revised postings: another quantity, and all else as it was.
use Rattle.measures.specs.declared.amounts.KilowattHours.{KilowattHours}
use Rattle.postings.specs.declared.bilateral.Bilateral.{Bilateral}
use Rattle.postings.specs.declared.record.Record.{Record}

abbrev pub revised_record : KilowattHours → Record → Record
revised_record q r = record { kind = r.kind; participant = r.participant; location = r.location; quantity = q }

abbrev pub revised_bilateral : KilowattHours → Bilateral → Bilateral
revised_bilateral q x = record { kind = x.kind; buyer = x.buyer; seller = x.seller; location = x.location; quantity = q }
