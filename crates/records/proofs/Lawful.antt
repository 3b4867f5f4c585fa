-- When the record of a weighing is lawful
use Rattle.std.proofs.Common.{◌≡◌, ℕ, ◌+◌, ◌-◌, ◌*◌, ◌^◌, ◌<◌, ◌≤◌, Bool, true, false, ◌&&◌, eqb, leb, List, sym, refl, arith}
use Rattle.std.proofs.lemmas.Bool.{le-leb, lt-ltb, eq-eqb}
use Rattle.std.proofs.lemmas.Bool.Decides.{nat_tests}
use Rattle.rules.specs.Loads.{kg_of, price_of}
use Rattle.rules.specs.Rows.{fields}
use Rattle.rules.proofs.Fits.{lawful_fits}
use Rattle.rules.specs.Records.{Record, lawful_mark, lawful_tare, lawful, unnumbered, numbered}
use Rattle.loads.specs.declared.interval.Interval.{Interval}
use Rattle.loads.specs.declared.interval.Interval.TheVariants.{One, Two, Five, Ten, Twenty, Fifty}
use Rattle.loads.specs.IntervalsOf.{interval_code}
use Rattle.records.specs.RecordsOf.{bounded}

pub code_at_most : (i : Interval) → interval_code i ≤ 5
code_at_most One = omega arith
code_at_most Two = omega arith
code_at_most Five = omega arith
code_at_most Ten = omega arith
code_at_most Twenty = omega arith
code_at_most Fifty = omega arith

-- with a net weight of 1 or more, net and tare make the gross
net_tells : (gross tare : ℕ) (rest : Bool) → (leb 1 (gross - tare) && (eqb (gross - tare + tare) gross && (rest && true))) ≡ (leb 1 (gross - tare) && rest)
net_tells gross tare rest = grind (arith, nat_tests)

-- what a record of the code has by its types
module _ (n interval gross kind tare day minute unit : ℕ) (mark : List ℕ) (n_fits : n < 2 ^ 32) (day_fits : day < 2 ^ 16) (code : interval ≤ 5) (known : lawful_mark mark ≡ true) where
  abbrev the_record : Record
  the_record = numbered n (unnumbered interval gross kind tare day minute unit mark)

  -- what is left to look at
  pub lawful_by : lawful the_record ≡ (bounded n minute gross tare (gross - tare) unit && lawful_tare kind tare)
  unfolding lawful
  lawful_by =
      rw (lt-ltb n (2 ^ 32) n_fits, lt-ltb day (2 ^ 16) day_fits, le-leb interval 5 code, known, eq-eqb _ _ refl, net_tells gross tare (leb unit 1000000))
      (reordered (leb 1 n) (leb minute 1439) (leb gross 10009) (leb tare 10000) (lawful_tare kind tare) (leb 1 (gross - tare)) (leb unit 1000000))
    where
      reordered : (a b c d e f g : Bool) → (a && (b && (c && (d && (e && (f && g)))))) ≡ ((a && (b && (g && (c && (d && f))))) && e)
      reordered a b c d e f g = grind (arith, nat_tests)

-- ---- What a lawful record has

module _ (r : Record) where
  pub lawful_price : lawful r ≡ true → r.price < 2 ^ 29
  unfolding fields
  lawful_price ok = (lawful_fits r ok).1.1.1.1.1.1.1.1.1.1.0

  pub wrong_interval : 5 < r.interval → lawful r ≡ false
  unfolding lawful
  wrong_interval h = grind (arith, nat_tests)

  pub wrong_tare : lawful_tare r.tare_kind r.tare ≡ false → lawful r ≡ false
  unfolding lawful
  wrong_tare h = grind (arith, nat_tests)

  pub wrong_mark : lawful_mark r.mark ≡ false → lawful r ≡ false
  unfolding lawful
  wrong_mark h = grind (arith, nat_tests)

  pub wrong_net : (r.net ≡ r.gross - r.tare → ⊥) → lawful r ≡ false
  unfolding lawful
  wrong_net h = grind (arith, nat_tests)

  pub wrong_price : (r.price ≡ price_of (r.net * kg_of r.interval) r.unit_price → ⊥) → lawful r ≡ false
  unfolding lawful
  wrong_price h = grind (arith, nat_tests)

-- fields that agree with a record are that record's
pub same_record :
    (n day minute unit i j g k l t s net price : ℕ) (m o : List ℕ) → i ≡ j → k ≡ l → t ≡ s → m ≡ o → net ≡ g - t → price ≡ price_of ((g - t) * kg_of i) unit
    → numbered n (unnumbered i g k t day minute unit m)
    ≡ record { number = n; day = day; minute = minute; interval = j; gross = g; tare_kind = l; tare = s; net = net; unit_price = unit; price = price; mark = o }
same_record n day minute unit i j g k l t s net price m o code kind tare mark net_is price_is =
    λ x. record {
      number = n;
      day = day;
      minute = minute;
      interval = code x;
      gross = g;
      tare_kind = kind x;
      tare = tare x;
      net = sym net_is x;
      unit_price = unit;
      price = sym price_is x;
      mark = mark x;
    }

-- ---- A record in the fields of a row

module _ (r : Record) where
  pub unbounded : bounded r.number r.minute r.gross r.tare r.net r.unit_price ≡ false → lawful r ≡ false
  unfolding lawful
  unbounded h = grind (arith, nat_tests)

  pub all_right :
      bounded r.number r.minute r.gross r.tare r.net r.unit_price ≡ true → r.number < 2 ^ 32 → r.day < 2 ^ 16 → r.interval ≤ 5
      → lawful_tare r.tare_kind r.tare ≡ true → r.net ≡ r.gross - r.tare → r.price ≡ price_of (r.net * kg_of r.interval) r.unit_price → lawful_mark r.mark ≡ true
      → lawful r ≡ true
  unfolding lawful
  all_right numbers number day interval tare net price mark =
      let sum : r.net + r.tare ≡ r.gross = grind (arith, nat_tests) in
      let low : leb 1 r.number ≡ true = grind (arith, nat_tests) in
      let minute : leb r.minute 1439 ≡ true = grind (arith, nat_tests) in
      let unit : leb r.unit_price 1000000 ≡ true = grind (arith, nat_tests) in
      let gross : leb r.gross 10009 ≡ true = grind (arith, nat_tests) in
      let heavy : leb r.tare 10000 ≡ true = grind (arith, nat_tests) in
      let some : leb 1 r.net ≡ true = grind (arith, nat_tests) in
      rw (
        low,
        lt-ltb r.number (2 ^ 32) number,
        lt-ltb r.day (2 ^ 16) day,
        minute,
        le-leb r.interval 5 interval,
        gross,
        heavy,
        tare,
        some,
        eq-eqb (r.net + r.tare) r.gross sum,
        unit,
        eq-eqb r.price (price_of (r.net * kg_of r.interval) r.unit_price) price,
        mark,
      )
