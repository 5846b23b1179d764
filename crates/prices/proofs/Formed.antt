-- What holds of a layer after a group that is accepted.
use Rattle.std.proofs.Common.{◌≡◌, ℕ, ◌+◌, ◌<◌, ◌≤◌, Bool, true, false, cond, not, ltb, leb, List, length, is_some, Some, None, Option, sym, refl, ap, ◌∙◌}
use Rattle.std.specs.List.{list_all, position}
use Rattle.std.specs.Option.{option_map}
use Rattle.std.proofs.lemmas.Bool.{and_parts, cond-false, cond-true, leb-true, ltb-true}
use Rattle.measures.specs.Codes.{same_code, well_formed}
use Rattle.measures.specs.declared.code.LocationCode.{LocationCode}
use Rattle.measures.specs.declared.fault.Cause.{Cause}
use Rattle.measures.specs.declared.fault.Cause.TheVariants.{MalformedCode, GroupOutOfRange, MemberWithoutPrice, SourceFull}
use Rattle.prices.specs.Layers.{form_refusal, form_refusals, FormedLast, has_price, laid_over, layer_quote, members_of}
use Rattle.prices.specs.Means.{all_priced, group_components, group_price}
use Rattle.prices.specs.Members.{count_in_range, first_failing, members_refusal, members_refusals, weight_in_range, weights_in_range}
use Rattle.prices.specs.Quotes.{AddsPrice, HasPrice, Quote}
use Rattle.prices.specs.Refusals.{where_at}
use Rattle.prices.specs.Priced.{price_of}
use Rattle.prices.specs.declared.group.Group.{Group}
use Rattle.prices.specs.declared.member.Member.{Member}
use Rattle.prices.specs.declared.price.Market.{Market}
use Rattle.prices.specs.declared.price.Market.TheVariants.{DayAhead, RealTime}
use Rattle.prices.specs.declared.price.Price.{Price}
use Rattle.prices.proofs.Accepted.{none_of, unless_none}
use Rattle.measures.proofs.Codes.{same_self}
use Rattle.prices.proofs.Failing.{none_fails}
use Rattle.prices.specs.Guarded.{some_value}
use Rattle.prices.specs.Layered.{components_some, laid_push, priced_both}
use Rattle.prices.specs.Prices.{price_has}

-- a refusal at the first member that fails a test does not apply where all pass it
where_none : (test : Member → Bool) (xs : List Member) (c : Cause) → where_at (first_failing test xs) c ≡ None → list_all test xs ≡ true
where_none test xs c h = none_fails test xs (there (position (λ x. not (test x)) xs) h)
  where
    there : (o : Option ℕ) → where_at (option_map (λ i. i + 1) o) c ≡ None → o ≡ None
    there (Some i) k = cc
    there None k = refl

-- what accepted members have
pub record AcceptedMembers (xs : List Member) : Type 0 where
  pub some : 1 ≤ length xs
  pub few : length xs ≤ 8
  pub weighed : weights_in_range xs ≡ true

pub accepted_members : (xs : List Member) → members_refusal xs ≡ None → AcceptedMembers xs
accepted_members xs h =
    let n = none_of (members_refusals xs) h in
    let count = and_parts (leb 1 (length xs)) (leb (length xs) 8) (unless_none (count_in_range (length xs)) GroupOutOfRange n.0) in
    record { some = leb-true 1 (length xs) count.0; few = leb-true (length xs) 8 count.1; weighed = where_none weight_in_range xs GroupOutOfRange n.1.0 }

-- what an accepted group has
pub record AcceptedGroup (q : Quote) (gs : List Group) (c : LocationCode) (xs : List Member) : Type 0 where
  pub formed : well_formed c ≡ true
  pub members : AcceptedMembers xs
  pub priced_there : all_priced q DayAhead xs ≡ true
  pub room : length gs < 8

pub accepted_group : (q : Quote) (gs : List Group) (c : LocationCode) (xs : List Member) → form_refusal q gs c xs ≡ None → AcceptedGroup q gs c xs
accepted_group q gs c xs h =
    let n = none_of (form_refusals q gs c xs) h in
    record {
      formed = unless_none (well_formed c) MalformedCode n.0;
      members = accepted_members xs n.1.1.0;
      priced_there = where_none (has_price q) xs MemberWithoutPrice n.1.1.1.0;
      room = ltb-true (length gs) 8 (unless_none (ltb (length gs) 8) SourceFull n.1.1.1.1.0);
    }

-- the members have prices in each market
all_there : (q : Quote) → ((c : LocationCode) → is_some (q c DayAhead) ≡ is_some (q c RealTime)) → (xs : List Member) (m : Market) → all_priced q DayAhead xs ≡ true → all_priced q m xs ≡ true
all_there q both xs DayAhead h = h
all_there q both xs RealTime h = sym (priced_both q both xs) ∙ h

-- an accepted group gives its code the price of its members, and no other code another price
pub group_adds : (q : Quote) → ((c : LocationCode) → is_some (q c DayAhead) ≡ is_some (q c RealTime)) → (gs hs : List Group) (c : LocationCode) (xs : List Member) → form_refusal q gs c xs ≡ None → FormedLast gs hs c xs → AddsPrice (layer_quote q gs) (layer_quote q hs) c (group_components q xs)
group_adds q both gs hs c xs h f = record { its_price = its; the_others = others }
  where
    a : AcceptedGroup q gs c xs
    a = accepted_group q gs c xs h

    laid : (d : LocationCode) (m : Market) → laid_over q d m (q d m) hs ≡ cond (same_code c d) (group_price q m xs) (laid_over q d m (q d m) gs)
    laid d m =
        ap (laid_over q d m (q d m)) f.comes_last
        ∙ (laid_push q d m (q d m) gs f.group
        ∙ (ap (λ (k : LocationCode). cond (same_code k d) (group_price q m (members_of f.group)) (laid_over q d m (q d m) gs)) f.its_code
        ∙ ap (λ (ys : List Member). cond (same_code c d) (group_price q m ys) (laid_over q d m (q d m) gs)) f.its_members))

    its : (m : Market) → HasPrice (layer_quote q hs) c m (group_components q xs m)
    its m =
        let v = some_value (price_of (group_components q xs m)) (components_some q m xs a.members.some a.members.weighed) in
        record {
          price = v.0;
          said = cond-true _ _ _ a.formed ∙ (laid c m ∙ (cond-true _ _ _ (same_self c) ∙ (cond-true _ _ _ (all_there q both xs m a.priced_there) ∙ v.1)));
          components = price_has _ v.0 v.1;
        }

    others : (d : LocationCode) (m : Market) → same_code c d ≡ false → layer_quote q hs d m ≡ layer_quote q gs d m
    others d m k = ap (λ (o : Option Price). cond (well_formed d) o None) (laid d m ∙ cond-false _ _ _ k)
