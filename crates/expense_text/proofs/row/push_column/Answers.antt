use Rattle.std.proofs.Common.{◌≡◌, ℕ, ◌+◌, ◌-◌, ◌++◌, List, [], ◌∷◌, length, replicate, sym, ap, ◌∙◌, append-nil, append_assoc, arith}
use Rattle.std.proofs.lemmas.List.{length-append, length-replicate, replicate-append-replicate}
use Rattle.expense_text.proofs.row.push_column.Goals as goal

-- one space more
more : (start before after : List ℕ) (k n : ℕ) → before ≡ start ++ replicate k 32 → after ≡ before ++ (32 ∷ []) → n ≡ k + 1 → after ≡ start ++ replicate n 32
more start before after k n so_far pushed e =
    pushed
    ∙ ap (λ (bs : List ℕ). bs ++ (32 ∷ [])) so_far
    ∙ append_assoc start (replicate k 32) (32 ∷ [])
    ∙ ap (λ (bs : List ℕ). start ++ bs) (replicate-append-replicate k 1 32 ∙ ap (λ (m : ℕ). replicate m 32) (sym e))

-- how long a start and its spaces are
long : (start row : List ℕ) (k : ℕ) → row ≡ start ++ replicate k 32 → length row ≡ length start + k
long start row k e = ap length e ∙ length-append start (replicate k 32) ∙ ap (λ (n : ℕ). length start + n) (length-replicate k 32)

pub loop-init : goal.loop-init
loop-init c =
    let none : length c.args.text.now - length c.args.text.now ≡ 0 = omega arith in
    (sym (ap (λ (n : ℕ). c.args.row.now.bytes ++ replicate n 32) none ∙ append-nil c.args.row.now.bytes), omega arith)

pub push_str-requires : goal.push_str-requires
push_str-requires c =
    let size = long c.args.row.now.bytes c.loop.row.bytes (c.loop.counter - length c.args.text.now) c.loop.invariant.0 in
    (omega arith, omega (arith, c.requires, c.loop-test.true, c.loop.auto.counter))

pub loop-preserved : goal.loop-preserved
loop-preserved c =
    (more c.args.row.now.bytes c.loop.row.bytes c.push_str.new.self.bytes (c.loop.counter - length c.args.text.now) _ c.loop.invariant.0 c.push_str.ensures.bytes (omega (arith, c.loop.auto.counter)), omega (arith, c.loop-test.true, c.loop.auto.counter))

pub push_str-requires-2 : goal.push_str-requires-2
push_str-requires-2 c =
    let size = long c.args.row.now.bytes c.loop.row.bytes (c.loop.counter - length c.args.text.now) c.loop.invariant.0 in
    (omega arith, omega (arith, c.requires, c.loop.invariant.1))

pub returns : goal.returns
returns c =
    let start = c.args.row.now.bytes in
    let text = c.args.text.now in
    let many : c.loop.counter - length text ≡ c.args.width - length text = omega (arith, c.loop.invariant.1, c.loop-test.false) in
    c.push_str-2.ensures.bytes
    ∙ ap (λ (bs : List ℕ). bs ++ text) (c.loop.invariant.0 ∙ ap (λ (n : ℕ). start ++ replicate n 32) many)
    ∙ append_assoc start (replicate (c.args.width - length text) 32) text
