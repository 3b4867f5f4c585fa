use Rattle.std.proofs.Common.{◌≡◌, ℕ, ◌<◌, ◌++◌, length, get_or, drop, replicate, cond, sym, refl, ap, ◌∙◌, arith, rules, Ok, Err, Result, Option, None, Some}
use Rattle.std.specs.Prelude.{unwrap_or, IsErr}
use Rattle.std.specs.Option.{ok_or}
use Rattle.std.proofs.lemmas.List.{get_or-map, length-map}
use Rattle.rules.specs.Records.{code_of, lawful_mark, typed_mark}
use Rattle.records.specs.Meaning.{mark_says}
use Rattle.records.specs.declared.mark.Mark.{Mark}
use Rattle.records.specs.declared.mark.NoMark.{NoMark}
use Rattle.records.proofs.Marking.{unchanged, one_changed, all_changed, filled_up, no_mark, long_is_no_mark}
use Rattle.records.proofs.mark.Mark.typed.Goals as goal

-- what came of a character's code
ok_was : (o : Option ℕ) (e : NoMark) (x : ℕ) → Ok x ≡ ok_or o e → unwrap_or o 63 ≡ x
ok_was None e x h = cc
ok_was (Some y) e x h = cc

err_was : (o : Option ℕ) (e f : NoMark) → Err f ≡ ok_or o e → unwrap_or o 63 ≡ 63
err_was None e f h = refl
err_was (Some y) e f h = cc

says_none : (r : Result Mark NoMark) → IsErr r → mark_says r ≡ None
says_none (Ok m) h = cc
says_none (Err e) h = refl

pub returns-then-bytes-gt8 : goal.returns-then-bytes-gt8
returns-then-bytes-gt8 c =
    let m = typed_mark c.args.bytes.now in
    sym (ap (λ b. cond b (Some m) None) (long_is_no_mark c.args.bytes.now c.if-bytes-gt8.true))

pub returns-in_err-code : goal.returns-in_err-code
returns-in_err-code c =
    let bytes = c.args.bytes.now in
    let m = typed_mark bytes in
    let l = c.loop-code in
    let i : ℕ = l.code-index in
    let padded = c.copy_from_slice.new.self ++ drop (length bytes) (replicate 8 32) in
    let is = filled_up bytes padded c.if-bytes-gt8.false (ap (λ xs. xs ++ drop (length bytes) (replicate 8 32)) c.copy_from_slice.ensures.after) in
    let inside : i < length padded = omega (arith, is.1) in
    let code : get_or m i 0 ≡ 63 =
    ap (λ cs. get_or cs i 0) (sym is.0) ∙ get_or-map code_of padded i 0 0 inside ∙ ap code_of (sym (unchanged code_of padded l.code-items i l.invariant inside))
    ∙ sym c.code_of.ensures.code ∙ err_was c.code_of.result _ c.in_err-code.field-0.0 c.in_err-code.ensures.value in
    says_none c.from_residual.result c.from_residual.ensures.0
    ∙ sym (ap (λ b. cond b (Some m) None) (no_mark m i (omega (arith, ap length is.0, length-map padded code_of)) (omega arith)))

pub loop-code-preserved : goal.loop-code-preserved
loop-code-preserved c =
    let bytes = c.args.bytes.now in
    let l = c.loop-code in
    let padded = c.copy_from_slice.new.self ++ drop (length bytes) (replicate 8 32) in
    let is = filled_up bytes padded c.if-bytes-gt8.false (ap (λ xs. xs ++ drop (length bytes) (replicate 8 32)) c.copy_from_slice.ensures.after) in
    one_changed code_of padded l.code-items l.code-index l.invariant c.in_ok-code.field-0 (omega (arith, is.1)) (search rules)
    (sym (ok_was c.code_of.result _ c.in_ok-code.field-0 c.in_ok-code.ensures.value) ∙ c.code_of.ensures.code)

pub returns : goal.returns
returns c =
    let bytes = c.args.bytes.now in
    let l = c.loop-code in
    let padded = c.copy_from_slice.new.self ++ drop (length bytes) (replicate 8 32) in
    let is = filled_up bytes padded c.if-bytes-gt8.false (ap (λ xs. xs ++ drop (length bytes) (replicate 8 32)) c.copy_from_slice.ensures.after) in
    c.from_codes.ensures ∙ ap (λ m. cond (lawful_mark m) (Some m) None) (all_changed code_of padded l.code-items l.code-index l.invariant (omega (arith, is.1)) ∙ is.0)
