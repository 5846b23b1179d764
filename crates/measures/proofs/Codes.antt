-- The comparison of codes tells equal ones.
use Rattle.std.proofs.Common.{◌≡◌, true, rules}
use Rattle.std.proofs.lemmas.Slice.Eq.{bytes_eq-Decides}
use Rattle.measures.specs.Codes.{same_code}
use Rattle.measures.specs.declared.code.LocationCode.{LocationCode}

pub same_self : (c : LocationCode) → same_code c c ≡ true
same_self c = search (rules, bytes_eq-Decides c.bytes c.bytes)

pub same_code_is : (c d : LocationCode) → same_code c d ≡ true → c ≡ d
same_code_is c d e = search (rules, bytes_eq-Decides c.bytes d.bytes)
