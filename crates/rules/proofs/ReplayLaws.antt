-- The kind of the medium makes no difference to what a trace writes
use Rattle.std.proofs.Common.{◌≡◌, ℕ, ◌+◌, List, [], ◌∷◌, ◌++◌, take, refl, ap, ◌∙◌, Option}
use Rattle.rules.specs.Lists.{when_some}
use Rattle.rules.specs.Trace.{trace_limit, lines, Command, Reading, asks, refused, command_of, reading_of}
use Rattle.rules.specs.Replay.{Replay, unopened, running, plays, writes_from, trace_writes}
use Rattle.rules.specs.Laws.{SameButKind, same, other_kind, SameLinesButKind, KindMakesNoDifference}

-- a line
plays_same :
    (r : Replay) (n : ℕ) (a b : Option Command) → SameButKind a b → plays r n (when_some a (refused 32 n) asks) ≡ plays r n (when_some b (refused 32 n) asks)
plays_same r n a b same = refl
plays_same unopened n a b other_kind = refl
plays_same (running s w) n a b other_kind = refl

-- lines after others
writes_same : (r : Replay) (before : ℕ) (ls ms : List (List ℕ)) → SameLinesButKind ls ms → writes_from r before ls ≡ writes_from r before ms
unfolding writes_from
writes_same r before [] [] e = refl
writes_same r before [] (m ∷ ms) e = absurd e
writes_same r before (l ∷ ls) [] e = absurd e
writes_same r before (l ∷ ls) (m ∷ ms) e =
    let play : Reading → List ℕ × Replay = plays r (before + 1) in
    let one = plays_same r (before + 1) (command_of l) (command_of m) e.0 in
    ap (λ z. z.0 ++ writes_from z.1 (before + 1) ls) one
    ∙ ap (λ z. (play (reading_of (before + 1) m)).0 ++ z) (writes_same (play (reading_of (before + 1) m)).1 (before + 1) ls ms e.1)

pub kind_makes_no_difference : KindMakesNoDifference
unfolding trace_writes
kind_makes_no_difference a b e = writes_same unopened 0 (lines (take trace_limit a)) (lines (take trace_limit b)) e
