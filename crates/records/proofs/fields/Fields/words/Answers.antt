use Rattle.std.proofs.Common.{◌≡◌, ℕ, ◌+◌, ◌*◌, ◌^◌, ap, ◌∙◌, arith}
use Rattle.rules.specs.Rows.{side_by_side}
use Rattle.records.specs.Streams.{written}
use Rattle.records.proofs.fields.Fields.words.Goals as goal

pub returns : goal.returns
unfolding side_by_side
returns c =
    let f = c.args.self in
    let p0 : ℕ = 0 in
    let e0 : written c.new-writer.result ≡ p0 = c.new-writer.ensures.none in
    let p1 : ℕ = p0 * 2 ^ 8 + f.kind in
    let p2 : ℕ = p1 * 2 ^ 32 + f.number in
    let p3 : ℕ = p2 * 2 ^ 16 + f.day in
    let p4 : ℕ = p3 * 2 ^ 11 + f.minute in
    let p5 : ℕ = p4 * 2 ^ 3 + f.interval in
    let p6 : ℕ = p5 * 2 ^ 14 + f.gross in
    let p7 : ℕ = p6 * 2 ^ 2 + f.tare_kind in
    let p8 : ℕ = p7 * 2 ^ 14 + f.tare in
    let p9 : ℕ = p8 * 2 ^ 14 + f.net in
    let p10 : ℕ = p9 * 2 ^ 20 + f.unit_price in
    let p11 : ℕ = p10 * 2 ^ 29 + f.price in
    let p12 : ℕ = p11 * 2 ^ 48 + f.mark in
    let p13 : ℕ = p12 * 2 ^ 37 + f.spare in
    let e1 : written c.put.new.self ≡ p1 = c.put.ensures.value ∙ ap (λ p. p * 2 ^ 8 + c.from.result) e0 ∙ ap (λ v. p0 * 2 ^ 8 + v) c.from.ensures in
    let e2 : written c.put-2.new.self ≡ p2 = c.put-2.ensures.value ∙ ap (λ p. p * 2 ^ 32 + c.from-2.result) e1 ∙ ap (λ v. p1 * 2 ^ 32 + v) c.from-2.ensures in
    let e3 : written c.put-3.new.self ≡ p3 = c.put-3.ensures.value ∙ ap (λ p. p * 2 ^ 16 + c.from-3.result) e2 ∙ ap (λ v. p2 * 2 ^ 16 + v) c.from-3.ensures in
    let e4 : written c.put-4.new.self ≡ p4 = c.put-4.ensures.value ∙ ap (λ p. p * 2 ^ 11 + c.from-4.result) e3 ∙ ap (λ v. p3 * 2 ^ 11 + v) c.from-4.ensures in
    let e5 : written c.put-5.new.self ≡ p5 = c.put-5.ensures.value ∙ ap (λ p. p * 2 ^ 3 + c.from-5.result) e4 ∙ ap (λ v. p4 * 2 ^ 3 + v) c.from-5.ensures in
    let e6 : written c.put-6.new.self ≡ p6 = c.put-6.ensures.value ∙ ap (λ p. p * 2 ^ 14 + c.from-6.result) e5 ∙ ap (λ v. p5 * 2 ^ 14 + v) c.from-6.ensures in
    let e7 : written c.put-7.new.self ≡ p7 = c.put-7.ensures.value ∙ ap (λ p. p * 2 ^ 2 + c.from-7.result) e6 ∙ ap (λ v. p6 * 2 ^ 2 + v) c.from-7.ensures in
    let e8 : written c.put-8.new.self ≡ p8 = c.put-8.ensures.value ∙ ap (λ p. p * 2 ^ 14 + c.from-8.result) e7 ∙ ap (λ v. p7 * 2 ^ 14 + v) c.from-8.ensures in
    let e9 : written c.put-9.new.self ≡ p9 = c.put-9.ensures.value ∙ ap (λ p. p * 2 ^ 14 + c.from-9.result) e8 ∙ ap (λ v. p8 * 2 ^ 14 + v) c.from-9.ensures in
    let e10 : written c.put-10.new.self ≡ p10 = c.put-10.ensures.value ∙ ap (λ p. p * 2 ^ 20 + c.from-10.result) e9 ∙ ap (λ v. p9 * 2 ^ 20 + v) c.from-10.ensures in
    let e11 : written c.put-11.new.self ≡ p11 = c.put-11.ensures.value ∙ ap (λ p. p * 2 ^ 29 + c.from-11.result) e10 ∙ ap (λ v. p10 * 2 ^ 29 + v) c.from-11.ensures in
    let e12 : written c.put-12.new.self ≡ p12 = c.put-12.ensures.value ∙ ap (λ p. p * 2 ^ 48 + f.mark) e11 in
    let e13 : written c.put-13.new.self ≡ p13 = c.put-13.ensures.value ∙ ap (λ p. p * 2 ^ 37 + f.spare) e12 in
    let e14 : written c.put-14.new.self ≡ p13 * 256 = omega (arith, c.put-14.ensures.value, e13) in
    c.finish.ensures ∙ e14
