-- A layer of groups over a source: what it says, and which group may be formed.
use Rattle.std.specs.Prelude.{◌≡◌, Bool, cond, not, fold, List, [], ◌∷◌, ◌++◌, length, is_some, None, vec_items, Option, nat_lt}
use Rattle.measures.specs.Codes.{well_formed, same_code}
use Rattle.measures.specs.declared.code.LocationCode.{LocationCode}
use Rattle.measures.specs.declared.fault.Cause.TheVariants.{MalformedCode, PricedAlready, MemberWithoutPrice, SourceFull}
use Rattle.measures.specs.declared.fault.Fault.{Fault}
use Rattle.prices.specs.Means.{group_price}
use Rattle.prices.specs.Members.{first_failing, members_refusal}
use Rattle.prices.specs.Quotes.{Quote}
use Rattle.prices.specs.Refusals.{first_of, unless, where_at}
use Rattle.prices.specs.declared.group.Group.{Group}
use Rattle.prices.specs.declared.member.Member.{Member}
use Rattle.prices.specs.declared.price.Market.{Market}
use Rattle.prices.specs.declared.price.Market.TheVariants.{DayAhead}
use Rattle.prices.specs.declared.price.Price.{Price}
use Rattle.prices.specs.declared.reserved.Reserved.{Reserved}

-- a group's members, in their order
abbrev pub members_of : Group → List Member
members_of g = g.members.list.items

-- the groups of a table, in the order in which they were formed
abbrev pub groups_of : Reserved Group 8 → List Group
groups_of t = vec_items t.items

-- each group in turn says the price of its own code, over what was said before
abbrev pub laid_over : Quote → LocationCode → Market → Option Price → List Group → Option Price
laid_over below c m = fold (λ said g. cond (same_code g.code c) (group_price below m (members_of g)) said)

-- what the layer says: a group's price, for every other code what is said below; a malformed code has no price
abbrev pub layer_quote : Quote → List Group → Quote
layer_quote below gs c m = cond (well_formed c) (laid_over below c m (below c m) gs) None

-- the member has a price below; a code has one in both markets or in neither
abbrev pub has_price : Quote → Member → Bool
has_price below x = is_some (below x.code DayAhead)

-- what may refuse a group, in this order; members count from place 1
abbrev pub form_refusals : Quote → List Group → LocationCode → List Member → List (Option Fault)
form_refusals below gs c xs =
    unless (well_formed c) MalformedCode
    ∷ unless (not (is_some (layer_quote below gs c DayAhead))) PricedAlready
    ∷ members_refusal xs
    ∷ where_at (first_failing (has_price below) xs) MemberWithoutPrice
    ∷ unless (nat_lt (length gs) 8) SourceFull
    ∷ []

-- why a group may not be formed, the first cause that applies
abbrev pub form_refusal : Quote → List Group → LocationCode → List Member → Option Fault
form_refusal below gs c xs = first_of (form_refusals below gs c xs)

-- the groups after are those before and one with this code and these members last
pub record FormedLast (before after : List Group) (c : LocationCode) (xs : List Member) : Type 0 where
  pub group : Group
  pub its_code : group.code ≡ c
  pub its_members : members_of group ≡ xs
  pub comes_last : after ≡ before ++ group ∷ []
