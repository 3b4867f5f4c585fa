use Rattle.std.proofs.Common.{◌≡◌, ◌-◌, ◌*◌, ◌^◌, ◌≤◌, Bool, true, false, cond, ◌&&◌, eqb, ltb, sym, refl, ap, ◌∙◌, ◌<◌, rules, Ok, Err, Result, None, Some}
use Rattle.std.specs.Prelude.{option_map}
use Rattle.std.specs.Result.{result_ok}
use Rattle.std.specs.Bool.{then_some}
use Rattle.std.proofs.Math.Bool.{and-false}
use Rattle.rules.specs.Lists.{digits_of}
use Rattle.rules.specs.Loads.{kg_of, price_of}
use Rattle.rules.specs.Records.{Record as TheRecord, lawful, lawful_mark, numbered, unnumbered}
use Rattle.std.proofs.lemmas.Bool.{ltb-false, eqb-true, eqb-false, eq-eqb, ne_eqb}
use Rattle.records.specs.declared.fields.Fields.{Fields}
use Rattle.records.specs.declared.mark.Mark.{Mark}
use Rattle.records.specs.declared.mark.NoMark.{NoMark}
use Rattle.records.specs.declared.record.Record.{Record}
use Rattle.records.specs.Meaning.{mark_says}
use Rattle.loads.specs.IntervalsOf.{interval_code}
use Rattle.records.specs.RecordsOf.{tare_kind_of, tare_value_of, record_of}
use Rattle.records.specs.FieldsOf.{is_record, record_in}
use Rattle.records.proofs.Lawful.{code_at_most, unbounded, all_right, wrong_interval, wrong_tare, wrong_mark, wrong_net, wrong_price, same_record}
use Rattle.records.proofs.fields.Fields.record.Goals as goal
use Rattle.records.proofs.fields.Fields.record.Goals.{then-self-ne-KIND-via-then-self-ne-KIND, then-self-ne-KIND-via-else-self-ne-KIND+then-self-ne-SPARE, then-self-ne-KIND-via-else-self-ne-KIND+else-self-ne-SPARE+then-not-are_bounded}

-- fields whose record is not lawful give none
no_record : (f : Fields) → lawful (record_in f) ≡ false → None ≡ cond (is_record f) (Some (record_in f)) None
no_record f e =
    sym (ap (λ b. cond (eqb f.kind 0xa1 && (eqb f.spare (2 ^ 37 - 1) && b)) (Some (record_in f)) None) e
    ∙ ap (λ b. cond (eqb f.kind 0xa1 && b) (Some (record_in f)) None) (and-false (eqb f.spare (2 ^ 37 - 1)))
    ∙ ap (λ b. cond b (Some (record_in f)) None) (and-false (eqb f.kind 0xa1)))

-- where no value came out, the test failed
none_was : {A : Type 0} (b : Bool) (x : A) → None ≡ cond b (Some x) None → b ≡ false
none_was true x e = cc
none_was false x e = refl

some_was : {A : Type 0} (b : Bool) (x y : A) → Some y ≡ cond b (Some x) None → y ≡ x
some_was true x y e = cc
some_was false x y e = cc

no_mark_was : (r : Result Mark NoMark) → None ≡ result_ok r → None ≡ mark_says r
no_mark_was (Ok m) e = cc
no_mark_was (Err e) h = refl

mark_was : (r : Result Mark NoMark) (m : Mark) → Some m ≡ result_ok r → Some m.codes ≡ mark_says r
mark_was (Ok n) m e = cc
mark_was (Err f) m e = cc

-- what a test keeps of a record of the code
kept_or_none : (b : Bool) (found : Record) → option_map record_of (then_some b found) ≡ cond b (Some (record_of found)) None
kept_or_none true found = refl
kept_or_none false found = refl

-- a record that has the fields but for net and price: it is theirs where these agree too, and else theirs is not lawful
module _ (f : Fields) (r : TheRecord) (net_is : r.net ≡ f.gross - f.tare) (price_is : r.price ≡ price_of (r.net * kg_of f.interval) f.unit_price)
    (kind_is : f.kind ≡ 0xa1) (spare_is : f.spare ≡ 2 ^ 37 - 1) (same : f.net ≡ r.net → f.price ≡ r.price → r ≡ record_in f)
    (ok : f.net ≡ r.net → f.price ≡ r.price → lawful (record_in f) ≡ true) where
  is_kept : (a b : Bool) → eqb f.net r.net ≡ a → eqb f.price r.price ≡ b → cond (a && b) (Some r) None ≡ cond (is_record f) (Some (record_in f)) None
  is_kept false b e h = no_record f (wrong_net (record_in f) (λ q. eqb-false _ _ e (q ∙ sym net_is)))
  is_kept true false e h =
      no_record f (wrong_price (record_in f) (λ q. eqb-false _ _ h (q ∙ ap (λ n. price_of (n * kg_of f.interval) f.unit_price) (eqb-true _ _ e) ∙ sym price_is)))
  is_kept true true e h =
      ap Some (same (eqb-true _ _ e) (eqb-true _ _ h))
      ∙ sym (ap (λ b. cond (b && (eqb f.spare (2 ^ 37 - 1) && lawful (record_in f))) (Some (record_in f)) None) (eq-eqb _ _ kind_is)
      ∙ ap (λ b. cond (b && lawful (record_in f)) (Some (record_in f)) None) (eq-eqb _ _ spare_is)
      ∙ ap (λ b. cond b (Some (record_in f)) None) (ok (eqb-true _ _ e) (eqb-true _ _ h)))

pub returns-then-self-ne-KIND : goal.returns-then-self-ne-KIND
returns-then-self-ne-KIND c =
    let f = c.args.self in
    elim c.then-self-ne-KIND.branch [
      | then-self-ne-KIND-via-then-self-ne-KIND w ↦ sym (ap (λ b. cond (b && (eqb f.spare (2 ^ 37 - 1) && lawful (record_in f))) (Some (record_in f)) None) (ne_eqb f.kind 0xa1 w.if-self-ne-KIND.true))
      | then-self-ne-KIND-via-else-self-ne-KIND+then-self-ne-SPARE w ↦
          sym (ap (λ b. cond (eqb f.kind 0xa1 && (b && lawful (record_in f))) (Some (record_in f)) None) (ne_eqb f.spare (2 ^ 37 - 1) w.if-self-ne-SPARE.true)
          ∙ ap (λ b. cond b (Some (record_in f)) None) (and-false (eqb f.kind 0xa1)))
      | then-self-ne-KIND-via-else-self-ne-KIND+else-self-ne-SPARE+then-not-are_bounded w ↦
          no_record f (unbounded (record_in f) (sym w.are_bounded.ensures ∙ w.if-not-are_bounded.true))
    ]

pub returns-in_err-from_code : goal.returns-in_err-from_code
returns-in_err-from_code c =
    let f = c.args.self in
    let past : 6 ≤ f.interval = ltb-false f.interval 6 (none_was (ltb f.interval 6) f.interval c.in_err-from_code.ensures) in
    ap (option_map record_of) c.from_residual.ensures ∙ no_record f (wrong_interval (record_in f) past)

pub returns-in_err-tare : goal.returns-in_err-tare
returns-in_err-tare c = ap (option_map record_of) c.from_residual-in_err-tare.ensures ∙ no_record c.args.self (wrong_tare (record_in c.args.self) c.in_err-tare.ensures)

pub returns-in_err-ok : goal.returns-in_err-ok
returns-in_err-ok c =
    let f = c.args.self in
    let m = digits_of 64 8 f.mark in
    ap (option_map record_of) c.from_residual-in_err-ok.ensures
    ∙ no_record f (wrong_mark (record_in f) (none_was (lawful_mark m) m (no_mark_was c.from_value.result c.in_err-ok.ensures.value ∙ c.from_value.ensures)))

pub returns : goal.returns
returns c =
    let f = c.args.self in
    let i = c.in_ok-from_code.field-0 in
    let t = c.in_ok-tare.field-0 in
    let m = digits_of 64 8 f.mark in
    let codes = c.in_ok-ok.field-0.codes in
    let r : TheRecord = numbered f.number (unnumbered (interval_code i) f.gross (tare_kind_of t) (tare_value_of t) f.day f.minute f.unit_price codes) in
    let code : interval_code i ≡ f.interval = some_was (ltb f.interval 6) f.interval (interval_code i) c.in_ok-from_code.ensures in
    let says = c.in_ok-tare.ensures in
    let mark = some_was (lawful_mark m) m codes (mark_was c.from_value.result c.in_ok-ok.field-0 c.in_ok-ok.ensures.value ∙ c.from_value.ensures) in
    let same : f.net ≡ r.net → f.price ≡ r.price → r ≡ record_in f =
    λ net price. same_record f.number f.day f.minute f.unit_price (interval_code i) f.interval f.gross (tare_kind_of t) f.tare_kind (tare_value_of t) f.tare
    f.net f.price codes m code says.1 says.2 mark net price in
    let few : f.interval ≤ 5 = rw (← code) (code_at_most i) in
    let number : f.number < 2 ^ 32 = search rules in
    let day : f.day < 2 ^ 16 = search rules in
    let ok : f.net ≡ r.net → f.price ≡ r.price → lawful (record_in f) ≡ true =
    λ net price. all_right (record_in f) (sym c.are_bounded.ensures ∙ c.if-not-are_bounded.false) number day few says.0 (net ∙ ap (λ n. f.gross - n) says.2)
    (price ∙ ap (λ n. price_of (n * kg_of (interval_code i)) f.unit_price) (sym net) ∙ ap (λ k. price_of (f.net * kg_of k) f.unit_price) code)
    (ap lawful_mark (sym mark) ∙ c.in_ok-ok.field-0.known) in
    ap (option_map record_of) c.then_some.ensures
    ∙ kept_or_none c.agrees.result _
    ∙ ap (λ b. cond b (Some r) None) c.agrees.ensures
    ∙ is_kept f r (ap (λ n. f.gross - n) says.2) (ap (λ k. price_of (r.net * kg_of k) f.unit_price) code)
    c.if-self-ne-KIND.false c.if-self-ne-SPARE.false same ok (eqb f.net r.net) (eqb f.price r.price) refl refl
