-- Two hours' postings that differ by one bilateral, and settlings on equal terms.
use Rattle.std.specs.Prelude.{◌≡◌, List, ◌∷◌, ◌++◌, ℤ}
use Rattle.std.specs.List.{AllByRecursion}
use Rattle.measures.specs.declared.code.LocationCode.{LocationCode}
use Rattle.prices.specs.declared.price.Market.{Market}
use Rattle.postings.specs.declared.bilateral.Bilateral.{Bilateral}
use Rattle.postings.specs.declared.record.Record.{Record}
use Rattle.obligations.specs.Positions.{Postings}
use Rattle.obligations.specs.Terms.{Terms}

-- the second has the first's postings and the bilateral x besides, wherever it stands in its list
pub record OneMore (x : Bilateral) (first second : Postings) : Type 0 where
  pub before : List Bilateral
  pub after : List Bilateral
  pub records_are : second.records ≡ first.records
  pub first_has : first.bilaterals ≡ before ++ after
  pub second_has : second.bilaterals ≡ before ++ x ∷ after

-- the same bilateral at another location
abbrev pub moved_to : LocationCode → Bilateral → Bilateral
moved_to l x = record { kind = x.kind; buyer = x.buyer; seller = x.seller; location = l; quantity = x.quantity }

-- the second has the first's postings, but that the bilateral x stands at another location
pub record Moved (x : Bilateral) (l : LocationCode) (first second : Postings) : Type 0 where
  pub before : List Bilateral
  pub after : List Bilateral
  pub records_are : second.records ≡ first.records
  pub first_has : first.bilaterals ≡ before ++ x ∷ after
  pub second_has : second.bilaterals ≡ before ++ moved_to l x ∷ after

-- a participant stands in no posting
pub record Absent (p : ℤ) (b : Postings) : Type 0 where
  pub in_no_record : AllByRecursion (λ (r : Record). ¬ (r.participant ≡ p)) b.records
  pub never_buyer : AllByRecursion (λ (x : Bilateral). ¬ (x.buyer ≡ p)) b.bilaterals
  pub never_seller : AllByRecursion (λ (x : Bilateral). ¬ (x.seller ≡ p)) b.bilaterals

-- equal prices and rounding rule; the sharing rules may differ
pub record SameTerms (first second : Terms) : Type 0 where
  pub prices_are : (l : LocationCode) (m : Market) → second.quote l m ≡ first.quote l m
  pub rounding_is : (z : ℤ) → second.rounds z ≡ first.rounds z
