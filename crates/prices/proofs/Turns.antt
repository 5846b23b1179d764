-- A turn of the loop over a group's members, and the price that the whole sums give.
use Rattle.std.proofs.Common.{◌≡◌, ℕ, ◌+◌, ◌*◌, ◌<◌, ◌≤◌, Bool, true, ◌&&◌, List, [], ◌∷◌, length, get_or, drop, ℤ, ◌+ℤ◌, ◌*ℤ◌, nat_abs, is_some, Some, Option, sym, refl, ap, ◌∙◌, ap₂, arith}
use lib.IntN.{+ℤ_assoc}
use Rattle.std.proofs.lemmas.Bool.{and_parts, cond-true}
use Rattle.std.proofs.lemmas.List.{at_drop_more}
use Rattle.prices.specs.Means.{all_priced, component, congestion_of, energy_of, first_energy, group_price, loss_of, weighted_mean, weighted_sum}
use Rattle.prices.specs.Members.{total_weight, weight_in_range, weights_in_range}
use Rattle.prices.specs.Priced.{price_of}
use Rattle.prices.specs.Quotes.{Quote}
use Rattle.prices.specs.Summed.{weight_bounds}
use Rattle.prices.specs.declared.member.Member.{Member}
use Rattle.prices.specs.declared.price.Market.{Market}
use Rattle.prices.specs.declared.price.Price.{Price}

-- a member that has a price leaves it to the others whether all have one
pub priced_again : (q : Quote) (m : Market) (xs : List Member) (i : ℕ) (d : Member) (p : Price) → i < length xs → Some p ≡ q (get_or xs i d).code m → all_priced q m (drop i xs) ≡ all_priced q m xs → all_priced q m (drop (i + 1) xs) ≡ all_priced q m xs
priced_again q m xs i d p h e inv = ap (λ (b : Bool). b && all_priced q m (drop (i + 1) xs)) (ap is_some e) ∙ sym (at_drop_more (all_priced q m) xs i d h) ∙ inv

-- the sum with its component and those left are still the whole sum
pub sum_again : (part : Price → ℤ) (q : Quote) (m : Market) (xs : List Member) (i : ℕ) (d : Member) (p : Price) (s t : ℤ) → i < length xs → Some p ≡ q (get_or xs i d).code m → t ≡ s +ℤ (part p *ℤ (get_or xs i d).weight) → s +ℤ weighted_sum part q m (drop i xs) ≡ weighted_sum part q m xs → t +ℤ weighted_sum part q m (drop (i + 1) xs) ≡ weighted_sum part q m xs
sum_again part q m xs i d p s t h e g inv =
    let rest = weighted_sum part q m (drop (i + 1) xs) in
    let w = (get_or xs i d).weight in
    ap (λ (z : ℤ). z +ℤ rest) g
    ∙ (+ℤ_assoc s (part p *ℤ w) rest
    ∙ (ap (λ (z : ℤ). s +ℤ z) (ap (λ (z : ℤ). (z *ℤ w) +ℤ rest) (ap (component part) e) ∙ sym (at_drop_more (weighted_sum part q m) xs i d h)) ∙ inv))

pub total_more : (xs : List Member) (i : ℕ) (d : Member) → i < length xs → total_weight (drop i xs) ≡ nat_abs (get_or xs i d).weight + total_weight (drop (i + 1) xs)
total_more xs i d h = at_drop_more total_weight xs i d h

-- the sum of weights is at most 1,000 for each member
pub total_few : (xs : List Member) → weights_in_range xs ≡ true → total_weight xs ≤ 1000 * length xs
total_few [] k = omega arith
total_few (x ∷ xs) k =
    let p = and_parts (weight_in_range x) (weights_in_range xs) k in
    let here = (weight_bounds x p.0).1 in
    let rest = total_few xs p.1 in
    omega arith

first_energy_is : (q : Quote) (m : Market) (xs : List Member) (d : Member) → 1 ≤ length xs → first_energy q m xs ≡ component energy_of (q (get_or xs 0 d).code m)
first_energy_is q m [] d h = absurd (omega arith)
first_energy_is q m (x ∷ xs) d h = refl

-- the price with the first energy component and the means of the whole sums is the group's
pub mean_is : (q : Quote) (m : Market) (xs : List Member) (d : Member) (e c l : ℤ) (o : Option Price) → 1 ≤ length xs → all_priced q m xs ≡ true → e ≡ component energy_of (q (get_or xs 0 d).code m) → c ≡ weighted_mean congestion_of q m xs → l ≡ weighted_mean loss_of q m xs → o ≡ price_of (record { energy = e; congestion = c; loss = l }) → o ≡ group_price q m xs
mean_is q m xs d e c l o h all f g k ho =
    let f' = f ∙ sym (first_energy_is q m xs d h) in
    ho ∙ (ap (λ (z : ℤ). price_of (record { energy = z; congestion = c; loss = l })) f' ∙ (ap₂ (λ (y z : ℤ). price_of (record { energy = first_energy q m xs; congestion = y; loss = z })) g k ∙ sym (cond-true (all_priced q m xs) _ _ all)))
