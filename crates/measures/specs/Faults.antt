-- Faults: the number of each cause, the name of each layer, and what a layer above adds.
use Rattle.std.specs.Prelude.{ℕ, List, cond, codes, Some, None, Option, nat_lt}
use Rattle.std.specs.Option.{option_or}
use Rattle.measures.specs.declared.fault.Fault.{Fault}
use Rattle.measures.specs.declared.fault.Cause.{Cause}
use Rattle.measures.specs.declared.fault.Cause.TheVariants.{UnknownParticipant, Layout, QuantityOutOfRange, MalformedCode, BuyerIsSeller, UnknownPosting, PostingWithoutPrice, ComponentOutOfRange, OtherEnergyComponent, PricedAlready, GroupOutOfRange, MemberWithoutPrice, SharingLimits, ExpenseOutOfRange, ShortPage, WrongPhase, ListFull, MarketLimit, SourceFull, VoidHour, OutOfMemory}
use Rattle.measures.specs.declared.fault.Layer.{Layer}
use Rattle.measures.specs.declared.fault.Layer.TheVariants.{Text, Price, Share, Hour}

-- the number by which a refusal is known: 1 to 15 are found in the input, 21 to 25 in the state, 99 is want of memory
abbrev pub number_of : Cause → ℕ
number_of UnknownParticipant = 1
number_of Layout = 2
number_of QuantityOutOfRange = 3
number_of MalformedCode = 4
number_of BuyerIsSeller = 5
number_of UnknownPosting = 6
number_of PostingWithoutPrice = 7
number_of ComponentOutOfRange = 8
number_of OtherEnergyComponent = 9
number_of PricedAlready = 10
number_of GroupOutOfRange = 11
number_of MemberWithoutPrice = 12
number_of SharingLimits = 13
number_of ExpenseOutOfRange = 14
number_of ShortPage = 15
number_of WrongPhase = 21
number_of ListFull = 22
number_of MarketLimit = 23
number_of SourceFull = 24
number_of VoidHour = 25
number_of OutOfMemory = 99

-- the name of a layer, in capital letters
abbrev pub layer_name : Layer → List ℕ
layer_name Text = codes "TEXT"
layer_name Price = codes "PRICE"
layer_name Share = codes "SHARE"
layer_name Hour = codes "HOUR"

-- a fault as the layer that finds it says it: no layer above has added its place yet
abbrev pub fault : Cause → Layer → Option ℕ → Fault
fault c l p = record { cause = c; layer = l; place = p; charge_line = None; text_line = None }

-- the line of a number: lines count from 1, and 0 is none
abbrev pub line_numbered : ℕ → Option ℕ
line_numbered n = cond (nat_lt 0 n) (Some n) None

-- the fault with a charge line added where it has none; all else stays
abbrev pub on_charge_line : ℕ → Fault → Fault
on_charge_line n f = record { cause = f.cause; layer = f.layer; place = f.place; charge_line = option_or f.charge_line (line_numbered n); text_line = f.text_line }

-- the fault with a text line added where it has none; all else stays
abbrev pub on_text_line : ℕ → Fault → Fault
on_text_line n f = record { cause = f.cause; layer = f.layer; place = f.place; charge_line = f.charge_line; text_line = option_or f.text_line (line_numbered n) }
