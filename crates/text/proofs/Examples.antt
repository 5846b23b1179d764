-- Printed numbers and amounts, worked out.
use Rattle.std.proofs.Common.{◌≡◌, pos, negsuc, codes, refl}
use Rattle.std.specs.Fmt.{digits}
use Rattle.text.specs.Fields.{right, number_text, dollars_text}

no_cents : dollars_text (pos 0) ≡ codes "0.00"
unfolding digits
no_cents = refl

below_a_dollar : dollars_text (negsuc 83) ≡ codes "-0.84"
unfolding digits
below_a_dollar = refl

above : dollars_text (pos 123405) ≡ codes "1234.05"
unfolding digits
above = refl

least : number_text (negsuc 9223372036854775807) ≡ codes "-9223372036854775808"
unfolding digits
least = refl

in_columns : right 6 (number_text (negsuc 41)) ≡ codes "   -42"
unfolding digits
in_columns = refl
