use Rattle.std.proofs.Common.{◌≡◌, refl, ap, ◌∙◌, rules, tests, Option, None, Some}
use Rattle.std.specs.Prelude.{option_map}
use Rattle.std.specs.Option.{option_or}
use Rattle.memory.specs.declared.entry.Entry.{Entry}
use Rattle.memory.specs.Entries.{entry_of}
use Rattle.memory.proofs.Scans.{better_told}
use Rattle.memory.proofs.reading.better.Goals as goal

meaning_or : (a b : Option Entry) → option_map entry_of (option_or a b) ≡ option_or (option_map entry_of a) (option_map entry_of b)
meaning_or None b = refl
meaning_or (Some x) b = refl

pub returns : goal.returns
returns g c =
    ap (option_map entry_of) c.or.ensures ∙ meaning_or c.and_then.result c.args.best
    ∙ better_told (g.M.Medium.rows c.args.m.now) c.args.row (option_map entry_of c.args.best) c.bytes_of.result c.filter.result c.and_then.result _ _ c.bytes_of.ensures c.filter.ensures
    (λ row b p. search (rules, tests)) c.and_then.ensures (λ row q. q)
