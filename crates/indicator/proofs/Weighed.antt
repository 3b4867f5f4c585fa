-- A weighing that no refusal meets may be stored
use Rattle.std.proofs.Common.{◌≡◌, ℕ, ◌≤◌, Bool, true, false, cond, List, [], ◌∷◌, ◌++◌, Ok, Err, Result, IsOk, unsigned_abs, sym, refl, ap, ◌∙◌, arith, None, Some}
use Rattle.std.proofs.lemmas.Bool.{cond-true}
use Rattle.rules.specs.Terminal.{Indicator, Entries, done, pending, ◌when◌, is_pending, is_waiting, gross, tare_kind, tare_value, weigh_refusals, record_from}
use Rattle.rules.specs.Records.{Record, lawful, typed_mark, numbered, unnumbered}
use Rattle.rules.proofs.Refusals.{NoneHolds}
use Rattle.rules.proofs.Weighings.{TareFits}
use Rattle.records.specs.declared.record.Tare.{Tare}
use Rattle.records.specs.declared.record.Tare.TheVariants.{None as NoTare, Weighed, Preset}
use Rattle.records.specs.RecordsOf.{tare_of, tare_value_of}
use Rattle.records.specs.declared.weighing.Weighing.{Weighing}
use Rattle.records.specs.declared.row.Unlawful.{Unlawful}
use Rattle.records.specs.WeighingsOf.{weighing_of, weighing_says}
use Rattle.indicator.specs.declared.state.State.{State}
use Rattle.indicator.specs.declared.state.State.TheVariants.{Waiting, Ready, Pending}
use Rattle.indicator.specs.declared.state.Event.TheVariants.{Weighed as WasWeighed}
use Rattle.indicator.specs.StatesOf.{state_of, state_after}
use Rattle.indicator.specs.Answers.{first_of, entry_refusals, ready_refusals, load_refusals}
use Rattle.indicator.specs.Tares.{least_tare}
use Rattle.indicator.proofs.Tables.{none_hold}

pub tare_fits : (t : Tare) (max : ℕ) → least_tare t ≤ tare_value_of t → tare_value_of t ≤ max → TareFits max (tare_of t)
tare_fits NoTare max lo hi = tt
tare_fits (Weighed v) max lo hi = (lo, hi)
tare_fits (Preset v) max lo hi = (lo, hi)

-- the record that is made has the interval, the gross weight and the mark of the weighing
pub same_record :
    (i j : Indicator) (e : Entries) (interval weight : ℕ) (mark : List ℕ) → interval ≡ i.settings.interval → weight ≡ unsigned_abs (gross j) → mark ≡ typed_mark e.mark
    → i ≡ j → unnumbered interval weight (tare_kind i.tare) (tare_value i.tare) e.day e.minute e.unit_price mark ≡ record_from j.settings (gross j) j.tare e
same_record i j e interval weight mark ei ew em same =
    let made : (interval weight : ℕ) (mark : List ℕ) → Record = λ x w m. unnumbered x w (tare_kind i.tare) (tare_value i.tare) e.day e.minute e.unit_price m in
    ap (λ x. made x weight mark) ei ∙ ap (λ w. made i.settings.interval w mark) ew ∙ ap (made i.settings.interval (unsigned_abs (gross j))) em
    ∙ ap (λ k. record_from k.settings (gross j) k.tare e) same

-- a lawful record makes a weighing
pub is_made : (made : Result Weighing Unlawful) (r s : Record) → weighing_says made ≡ cond (lawful (numbered 1 r)) (Some (numbered 0 r)) None → r ≡ s → lawful (numbered 1 s) ≡ true → IsOk made
is_made (Ok w) r s e same ok = refl
is_made (Err f) r s e same ok =
    let z : None ≡ Some (numbered 0 r) = e ∙ cond-true (lawful (numbered 1 r)) (Some (numbered 0 r)) None (ap (λ x. lawful (numbered 1 x)) same ∙ ok) in
    let y : ◌≡◌ {A = ℕ} 0 1 = cc in absurd (omega arith)

-- and a weighing is the one that was asked for
pub is_asked : (b : Bool) (r s : Record) → Some r ≡ cond b (Some s) None → r ≡ s
is_asked true r s e = cc
is_asked false r s e = let y : ◌≡◌ {A = ℕ} 0 1 = cc in absurd (omega arith)

-- where no part of the table refuses, no refusal holds
pub nothing_refuses :
    (i : Indicator) (e : Entries) → done ≡ first_of (entry_refusals e) → done ≡ first_of (ready_refusals i) → done ≡ first_of (load_refusals i)
    → NoneHolds (weigh_refusals i e)
nothing_refuses i e entry ready load =
    none_hold (entry_refusals e) (ready_refusals i ++ load_refusals i) (sym entry) (none_hold (ready_refusals i) (load_refusals i) (sym ready) (none_hold (load_refusals i) [] (sym load) tt))

-- where the refusals of the state let a weighing pass, it becomes pending
pub becomes_pending :
    (s : State) (w : Weighing) → first_of (8 when is_pending (state_of s) ∷ 16 when is_waiting (state_of s) ∷ []) ≡ done
    → state_after s (WasWeighed w) ≡ pending (weighing_of w)
becomes_pending Waiting w e = let y : ◌≡◌ {A = ℕ} 0 1 = cc in absurd (omega arith)
becomes_pending Ready w e = refl
becomes_pending (Pending v) w e = let y : ◌≡◌ {A = ℕ} 0 1 = cc in absurd (omega arith)
