-- The worked hours, computed.
use Rattle.std.proofs.Common.{◌≡◌, ℕ, zero, suc, ◌+◌, ◌*◌, ◌/◌, ◌<◌, true, List, length, ℤ, pos, negsuc, ◌-ℤ◌, ◌*ℤ◌, neg_ℤ, nat_abs, None, sym, refl, arith}
use Rattle.std.specs.List.{list_all}
use lib.IntN.{neg_ℤ-neg_ℤ}
use borrow.Author.Differences.{ints}
use Rattle.std.proofs.lemmas.Bool.{cond-false}
use Rattle.measures.specs.Codes.{well_formed}
use Rattle.measures.specs.Signs.{signed}
use Rattle.prices.specs.Priced.{price_of}
use Rattle.prices.specs.Rows.{rows_quote, row_quote, row_in_range, has_one_energy}
use Rattle.prices.specs.declared.row.PriceRow.{PriceRow}
use Rattle.prices.specs.Found.{found_alike, found_both}
use Rattle.prices.specs.Guarded.{guard_both, guarded}
use Rattle.rules.specs.Rounding.{Near, half_away, toward_zero}
use Rattle.rules.specs.Sharing.{Fair, shareable, largest_remainder, running}
use Rattle.rules.specs.LargestParts.{largest_fair}
use Rattle.rules.specs.RunningParts.{running_fair}
use Rattle.histories.specs.Examples.{TermsOf, sample_rows, congested_rows, SampleHour, GenerationAlone, LimitsMet, RefusalsMet, Played, EveryKind, WorkedHours}

-- ---- the laws of the two rounding rules used
signed_near : (x : ℤ) (n : ℕ) → nat_abs (pos (1000 * n) -ℤ pos (nat_abs x)) < 1000 → Near 1000 (pos 1000 *ℤ signed x n) x
signed_near (pos a) n h = h
signed_near (negsuc a) n h = omega (arith, ints, h)

signed_odd : (f : ℕ → ℕ) → f 0 ≡ 0 → (x : ℤ) → signed (neg_ℤ x) (f (nat_abs (neg_ℤ x))) ≡ neg_ℤ (signed x (f (nat_abs x)))
signed_odd f e (pos zero) = rw e refl
signed_odd f e (pos (suc n)) = refl
signed_odd f e (negsuc n) = sym (neg_ℤ-neg_ℤ (pos (f (suc n))))

half_near : (n : ℕ) → nat_abs (pos (1000 * ((n + 500) / 1000)) -ℤ pos n) < 1000
half_near n = omega (arith, ints)

whole_near : (n : ℕ) → nat_abs (pos (1000 * (n / 1000)) -ℤ pos n) < 1000
whole_near n = omega (arith, ints)

-- ---- lawful terms over the rows of a price table
unfoldable terms_over : (rows : List PriceRow) → list_all row_in_range rows ≡ true → has_one_energy rows ≡ true → (rounds : ℤ → ℤ) → ((x : ℤ) → Near 1000 (pos 1000 *ℤ rounds x) x) → ((x : ℤ) → rounds (neg_ℤ x) ≡ neg_ℤ (rounds x)) →
    (shares : ℤ → List ℤ → List ℤ) → ((pool : ℤ) (ws : List ℤ) → shareable pool ws (length ws) ≡ true → Fair pool ws (shares pool ws)) → TermsOf rows rounds shares
terms_over rows ranges energies rounds near odd shares fair = record {
  terms = record {
    quote = rows_quote rows;
    rounds = rounds;
    shares = shares;
    malformed = λ c m e. cond-false (well_formed c) (row_quote rows c m) None e;
    both = λ c. guard_both (well_formed c) _ _ (found_both rows c ranges);
    alike = λ c d m p q e f. found_alike rows m c d p q energies (guarded (well_formed c) _ p e) (guarded (well_formed d) _ q f);
    near = near;
    odd = odd;
    fair = fair;
  };
  prices_are = refl;
  rounding_is = refl;
  sharing_is = refl;
}

unfoldable sample_terms : TermsOf sample_rows half_away largest_remainder
sample_terms =
    terms_over sample_rows refl refl half_away (λ x. signed_near x ((nat_abs x + 500) / 1000) (half_near (nat_abs x))) (signed_odd (λ n. (n + 500) / 1000) refl) largest_remainder (λ pool ws e. largest_fair pool ws e)

unfoldable other_terms : TermsOf congested_rows toward_zero running
other_terms =
    terms_over congested_rows refl refl toward_zero (λ x. signed_near x (nat_abs x / 1000) (whole_near (nat_abs x))) (signed_odd (λ n. n / 1000) refl) running (λ pool ws e. running_fair pool ws e)

-- ---- the hours
sample_hour : SampleHour sample_terms.terms
unfolding price_of sample_terms terms_over
sample_hour = record { first = refl; second = refl; fund_is = refl }

generation_alone : GenerationAlone sample_terms.terms
unfolding price_of sample_terms terms_over
generation_alone = record { lines_are = refl; fund_is = refl }

limits_met : LimitsMet
limits_met = record { largest_taken = refl; one_more_refused = refl; market_filled = refl; market_passed = refl }

refusals_met : RefusalsMet sample_terms.terms
unfolding price_of sample_terms terms_over
refusals_met = record {
  void_by_count = refl;
  void_by_rows = refl;
  participant_first = refl;
  then_quantity = refl;
  then_code = refl;
  buyer_is_seller = refl;
  unknown_before_phase = refl;
  number_zero = refl;
  phase_of_known = refl;
  unpriced_bilateral = refl;
  unpriced_record = refl;
  list_is_full = refl;
  phase_before_list = refl;
  bilaterals_passed = refl;
  revision_counts = refl;
}

history_played : Played sample_terms.terms other_terms.terms
unfolding price_of sample_terms other_terms terms_over
history_played = record {
  answers_are = refl;
  phase_is = refl;
  first_amounts = refl;
  second_amounts = refl;
  third_amounts = refl;
  first_adjustments = refl;
  second_adjustments = refl;
  third_adjustments = refl;
  fund_is = refl;
}

every_kind_placed : EveryKind
every_kind_placed = record { of_buyer = refl; of_seller = refl; elsewhere_none = refl }

pub worked_hours : WorkedHours
worked_hours = record { sample_terms = sample_terms; other_terms = other_terms; sample = sample_hour; alone = generation_alone; limits = limits_met; refusals = refusals_met; history = history_played; kinds = every_kind_placed }
