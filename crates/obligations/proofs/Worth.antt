-- What a participant's positions come to at any price per location is a sum over the postings.
use Rattle.std.proofs.Common.{◌≡◌, Bool, cond, List, ℤ, pos, ◌+ℤ◌, ◌-ℤ◌, ◌*ℤ◌, neg_ℤ, refl, ap, ◌∙◌, arith}
use Rattle.std.specs.List.{AllByRecursion}
use Rattle.measures.specs.Codes.{same_code}
use Rattle.std.specs.Ordering.{int_eq}
use Rattle.measures.specs.declared.code.LocationCode.{LocationCode}
use Rattle.prices.specs.Quotes.{Quote}
use Rattle.prices.specs.declared.price.Market.{Market}
use Rattle.prices.specs.declared.price.Market.TheVariants.{DayAhead, RealTime}
use Rattle.postings.specs.Kinds.{same_kind}
use Rattle.postings.specs.declared.bilateral.Bilateral.{Bilateral}
use Rattle.postings.specs.declared.bilateral.BilateralKind.{BilateralKind}
use Rattle.postings.specs.declared.bilateral.BilateralKind.TheVariants.{DayAheadEnergy, RealTimeEnergy, RealTimeLoad}
use Rattle.postings.specs.declared.record.Record.{Record}
use Rattle.obligations.specs.Charges.{charged_position, unrounded}
use Rattle.obligations.specs.Effects.{Position, load_position, day_ahead_position, real_time_position, deviation_position, position, record_net, record_effect, bilateral_of, bilateral_effect, worth_of, records_worth, bought_worth, sold_worth, worth, charged}
use Rattle.obligations.specs.Positions.{Postings, record_kwh, bilateral_kwh, loads, generates, stands_at, load, generation, bought, sold, adjusted_load, day_ahead_net, real_time_net, locations}
use Rattle.obligations.specs.Sums.{sum_over, sum_where}
use Rattle.obligations.specs.Terms.{Component, price_at}
use Rattle.obligations.proofs.Integers.{linear, sum_same, sum_times_add, sum_times_sub, where_split, where_add, where_sub, where_neg}
use Rattle.obligations.proofs.Places.{StandsOnce, sum_by_key_times, records_once, bilaterals_once}

-- ---- at one location: a position is the effects of the records, of the bilaterals bought, less those of the bilaterals sold
module _ (b : Postings) (p : ℤ) (l : LocationCode) where
  abbrev record_here : Record → Bool
  record_here r = stands_at r.participant r.location p l

  abbrev bought_here : Bilateral → Bool
  bought_here x = stands_at x.buyer x.location p l

  abbrev sold_here : Bilateral → Bool
  sold_here x = stands_at x.seller x.location p l

  abbrev parts_here : (Record → ℤ) → (Bilateral → ℤ) → ℤ
  parts_here f h = sum_where record_here f b.records +ℤ sum_where bought_here h b.bilaterals -ℤ sum_where sold_here h b.bilaterals

  load_is : (m : Market) → load b m p l ≡ sum_where record_here (λ r. cond (loads m r.kind) (record_kwh r) (pos 0)) b.records
  load_is m = where_split (λ r. loads m r.kind) record_here record_kwh b.records

  net_is : (m : Market) → generation b m p l -ℤ load b m p l ≡ sum_where record_here (record_net m) b.records
  net_is m =
      omega (
        arith,
        linear,
        load_is m,
        where_split (λ r. generates m r.kind) record_here record_kwh b.records,
        where_sub record_here (λ r. cond (generates m r.kind) (record_kwh r) (pos 0)) (λ r. cond (loads m r.kind) (record_kwh r) (pos 0)) b.records,
      )

  bought_is : (k : BilateralKind) → bought b k p l ≡ sum_where bought_here (bilateral_of k) b.bilaterals
  bought_is k = where_split (λ x. same_kind x.kind k) bought_here bilateral_kwh b.bilaterals

  sold_is : (k : BilateralKind) → sold b k p l ≡ sum_where sold_here (bilateral_of k) b.bilaterals
  sold_is k = where_split (λ x. same_kind x.kind k) sold_here bilateral_kwh b.bilaterals

  load_parts : adjusted_load b p l ≡ parts_here (record_effect load_position) (bilateral_effect load_position)
  load_parts =
      omega (
        arith,
        linear,
        load_is RealTime,
        bought_is RealTimeLoad,
        sold_is RealTimeLoad,
        where_neg bought_here (bilateral_of RealTimeLoad) b.bilaterals,
        where_neg sold_here (bilateral_of RealTimeLoad) b.bilaterals,
      )

  day_ahead_parts : day_ahead_net b p l ≡ parts_here (record_effect day_ahead_position) (bilateral_effect day_ahead_position)
  day_ahead_parts = omega (arith, linear, net_is DayAhead, bought_is DayAheadEnergy, sold_is DayAheadEnergy)

  -- the sides of a real-time net, by name
  real_time_sum : (g n a bl sl be se rn : ℤ) → a ≡ n +ℤ sl -ℤ bl → g -ℤ n ≡ rn → g -ℤ a +ℤ be -ℤ se ≡ rn +ℤ (bl +ℤ be) -ℤ (sl +ℤ se)
  real_time_sum g n a bl sl be se rn e f = omega (arith, linear)

  both_sides : (r x y x' y' : ℤ) → x ≡ x' → y ≡ y' → r +ℤ x -ℤ y ≡ r +ℤ x' -ℤ y'
  both_sides r x y x' y' e f = cc

  two_of : (test : Bilateral → Bool) (bl be : ℤ) → bl ≡ sum_where test (bilateral_of RealTimeLoad) b.bilaterals → be ≡ sum_where test (bilateral_of RealTimeEnergy) b.bilaterals → bl +ℤ be ≡ sum_where test (bilateral_effect real_time_position) b.bilaterals
  two_of test bl be e f = omega (arith, linear, where_add test (bilateral_of RealTimeLoad) (bilateral_of RealTimeEnergy) b.bilaterals)

  real_time_parts : real_time_net b p l ≡ parts_here (record_effect real_time_position) (bilateral_effect real_time_position)
  real_time_parts =
      real_time_sum (generation b RealTime p l) (load b RealTime p l) (adjusted_load b p l) (bought b RealTimeLoad p l) (sold b RealTimeLoad p l) (bought b RealTimeEnergy p l) (sold b RealTimeEnergy p l) (sum_where record_here (record_net RealTime) b.records) refl (net_is RealTime)
      ∙ both_sides (sum_where record_here (record_net RealTime) b.records) (bought b RealTimeLoad p l +ℤ bought b RealTimeEnergy p l) (sold b RealTimeLoad p l +ℤ sold b RealTimeEnergy p l)
      (sum_where bought_here (bilateral_effect real_time_position) b.bilaterals) (sum_where sold_here (bilateral_effect real_time_position) b.bilaterals)
      (two_of bought_here (bought b RealTimeLoad p l) (bought b RealTimeEnergy p l) (bought_is RealTimeLoad) (bought_is RealTimeEnergy))
      (two_of sold_here (sold b RealTimeLoad p l) (sold b RealTimeEnergy p l) (sold_is RealTimeLoad) (sold_is RealTimeEnergy))

  deviation_sum : (a c r x y r' x' y' s u v : ℤ) → a ≡ r +ℤ x -ℤ y → c ≡ r' +ℤ x' -ℤ y' → s ≡ r -ℤ r' → u ≡ x -ℤ x' → v ≡ y -ℤ y' → a -ℤ c ≡ s +ℤ u -ℤ v
  deviation_sum a c r x y r' x' y' s u v h₁ h₂ h₃ h₄ h₅ = omega (arith, linear)

  pub position_parts : (s : Position) → position s b p l ≡ parts_here (record_effect s) (bilateral_effect s)
  position_parts load_position = load_parts
  position_parts day_ahead_position = day_ahead_parts
  position_parts real_time_position = real_time_parts
  position_parts deviation_position =
      deviation_sum (real_time_net b p l) (day_ahead_net b p l)
      (sum_where record_here (record_effect real_time_position) b.records) (sum_where bought_here (bilateral_effect real_time_position) b.bilaterals) (sum_where sold_here (bilateral_effect real_time_position) b.bilaterals)
      (sum_where record_here (record_effect day_ahead_position) b.records) (sum_where bought_here (bilateral_effect day_ahead_position) b.bilaterals) (sum_where sold_here (bilateral_effect day_ahead_position) b.bilaterals)
      (sum_where record_here (record_effect deviation_position) b.records) (sum_where bought_here (bilateral_effect deviation_position) b.bilaterals) (sum_where sold_here (bilateral_effect deviation_position) b.bilaterals)
      real_time_parts day_ahead_parts
      (where_sub record_here (record_net RealTime) (record_net DayAhead) b.records)
      (where_sub bought_here (bilateral_effect real_time_position) (bilateral_of DayAheadEnergy) b.bilaterals)
      (where_sub sold_here (bilateral_effect real_time_position) (bilateral_of DayAheadEnergy) b.bilaterals)

-- ---- over all locations
-- one list, over any locations among which those of its elements stand once
over_locations : {X : Type 0} (who : X → ℤ) (location : X → LocationCode) (effect : X → ℤ) (g : LocationCode → ℤ) (p : ℤ) (ls : List LocationCode) (xs : List X) → AllByRecursion (λ x. StandsOnce same_code ls (location x)) xs →
    sum_over (λ l. sum_where (λ x. stands_at (who x) (location x) p l) effect xs *ℤ g l) ls ≡ worth_of who location effect g p xs
over_locations who location effect g p ls xs a =
    sum_same (λ l. sum_where (λ x. stands_at (who x) (location x) p l) effect xs *ℤ g l) (λ l. sum_where (λ x. same_code (location x) l) (λ x. cond (int_eq (who x) p) (effect x) (pos 0)) xs *ℤ g l)
    (λ l. ap (λ z. z *ℤ g l) (where_split (λ x. int_eq (who x) p) (λ x. same_code (location x) l) effect xs)) ls
    ∙ sum_by_key_times same_code ls location (λ x. cond (int_eq (who x) p) (effect x) (pos 0)) g xs a

-- positions times prices over all locations
pub position_worth : (s : Position) (b : Postings) (g : LocationCode → ℤ) (p : ℤ) → sum_over (λ l. position s b p l *ℤ g l) (locations b) ≡ worth s b g p
position_worth s b g p =
    let r : LocationCode → ℤ = λ l. sum_where (λ r. stands_at r.participant r.location p l) (record_effect s) b.records in
    let x : LocationCode → ℤ = λ l. sum_where (λ x. stands_at x.buyer x.location p l) (bilateral_effect s) b.bilaterals in
    let y : LocationCode → ℤ = λ l. sum_where (λ x. stands_at x.seller x.location p l) (bilateral_effect s) b.bilaterals in
    three (sum_over (λ l. position s b p l *ℤ g l) (locations b)) (sum_over (λ l. (r l +ℤ x l -ℤ y l) *ℤ g l) (locations b)) (sum_over (λ l. (r l +ℤ x l) *ℤ g l) (locations b)) (sum_over (λ l. r l *ℤ g l) (locations b)) (sum_over (λ l. x l *ℤ g l) (locations b)) (sum_over (λ l. y l *ℤ g l) (locations b))
    (records_worth (record_effect s) g p b.records) (bought_worth (bilateral_effect s) g p b.bilaterals) (sold_worth (bilateral_effect s) g p b.bilaterals)
    (sum_same (λ l. position s b p l *ℤ g l) (λ l. (r l +ℤ x l -ℤ y l) *ℤ g l) (λ l. ap (λ z. z *ℤ g l) (position_parts b p l s)) (locations b))
    (sum_times_sub (λ l. r l +ℤ x l) y g (locations b)) (sum_times_add r x g (locations b))
    (over_locations (λ (r : Record). r.participant) (λ r. r.location) (record_effect s) g p (locations b) b.records (records_once b))
    (over_locations (λ (x : Bilateral). x.buyer) (λ x. x.location) (bilateral_effect s) g p (locations b) b.bilaterals (bilaterals_once b))
    (over_locations (λ (x : Bilateral). x.seller) (λ x. x.location) (bilateral_effect s) g p (locations b) b.bilaterals (bilaterals_once b))
  where
    three : (a c e r x y r' x' y' : ℤ) → a ≡ c → c ≡ e -ℤ y → e ≡ r +ℤ x → r ≡ r' → x ≡ x' → y ≡ y' → a ≡ r' +ℤ x' -ℤ y'
    three a c e r x y r' x' y' h₁ h₂ h₃ h₄ h₅ h₆ = omega (arith, linear)

pub charged_worth : (m : Market) (b : Postings) (g : LocationCode → ℤ) (p : ℤ) → sum_over (λ l. charged_position m b p l *ℤ g l) (locations b) ≡ worth (charged m) b g p
charged_worth DayAhead b g p = position_worth day_ahead_position b g p
charged_worth RealTime b g p = position_worth deviation_position b g p

-- a charge before rounding
pub unrounded_is : (b : Postings) (q : Quote) (m : Market) (c : Component) (p : ℤ) → unrounded b q m c p ≡ neg_ℤ (worth (charged m) b (price_at q m c) p)
unrounded_is b q m c p = ap neg_ℤ (charged_worth m b (price_at q m c) p)
