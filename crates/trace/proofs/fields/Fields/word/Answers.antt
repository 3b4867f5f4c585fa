use Rattle.std.proofs.Common.{◌≡◌, ◌+◌, ◌<◌, length, take, drop, IfSome, sym, refl, ap, ◌∙◌, subst, inl, inr, arith, Some}
use Rattle.std.specs.Option.{unwrap_or}
use Rattle.std.proofs.lemmas.List.{length-take-le}
use Rattle.rules.specs.Trace.{first_as}
use Rattle.trace.specs.Meaning.{read_as, words_left}
use Rattle.trace.proofs.Finding.{before, before_within, rest_is, found_or, none_past, word_found, part_is}
use Rattle.trace.proofs.fields.Fields.word.Goals as goal

pub returns-in_err-rest : goal.returns-in_err-rest
returns-in_err-rest c =
    let self = c.args.self.now in
    let past : length self.text.now < self.place = elim c.in_err-rest.ensures.lookup.0 [ inl h ↦ h | inr h ↦ omega arith ] in (
      ap (λ w. read_as (λ w. w.now) w (words_left self)) c.from_residual.ensures ∙ sym (ap (first_as Some) (none_past self.place self.text.now past)),
      subst (λ w. IfSome w (λ w. w.now ≡ take (length w.now) (drop self.place self.text.now))) (sym c.from_residual.ensures) tt,
      refl,
      subst (λ w. IfSome w (λ w. self.place ≡ self.place + (length w.now + 1))) (sym c.from_residual.ensures) tt,
    )

pub returns : goal.returns
returns c =
    let self = c.args.self.now in
    let look = c.in_ok-rest.ensures.lookup.0 in
    let size = c.unwrap_or-size.result in
    let rest = c.in_ok-rest.rest.now in
    let e : rest ≡ drop self.place self.text.now = rest_is self.text.now rest self.place look.2 in
    let found : size ≡ before 32 rest = found_or 32 rest size (c.unwrap_or-size.ensures ∙ ap (λ o. unwrap_or o (length rest)) c.find.ensures) in (
      sym (ap (first_as Some) (word_found self.place size self.text.now rest look.0 e found)),
      part_is size rest ∙ ap (take (length (take size rest))) e,
      refl,
      omega (arith, length-take-le size rest (omega (arith, found, before_within 32 rest))),
    )
