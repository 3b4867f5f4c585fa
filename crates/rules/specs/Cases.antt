-- Worked cases, gathered as one fact; each is computed from the rules
use Rattle.std.specs.Prelude.{◌≡◌, ℕ, List, [], ◌∷◌, ◌++◌, map, replicate, ℤ, pos, negsuc, codes, Option, None, Some}
use Rattle.rules.specs.Loads.{rounded, sum, mean, gross_of, price_of}
use Rattle.rules.specs.Records.{Record, typed_mark}
use Rattle.rules.specs.Rows.{packing}
use Rattle.rules.specs.Settings.{Settings}
use Rattle.rules.specs.Terminal.{no_tare, ready, Indicator, World, set_zero, take_tare, clear_tare, preset_tare, Entries, Call, opening, sample, key, weigh, store, print, release, Answer, done, gives, prints, refuses, with_zero, with_indicator, acts}
use Rattle.rules.specs.Replay.{eight_pages}
use Rattle.rules.specs.Trace.{flash, sectors, Command, to_begin, to_sample, to_press, to_weigh, to_reopen, to_release, to_print, lines, command_of, mark_place}

-- ---- A terminal with a load on it

-- class 3, an interval of 20 kg, at most 3,000 intervals
abbrev pub some_settings : Settings
some_settings = record { class = 3; interval = 4; max = 3000 }

-- it shows one load, in tenths, that stands still
abbrev pub steady : (load : ℤ) → Indicator
steady load = record { settings = some_settings; zero_at = pos 0; tare = no_tare; window = replicate 8 load; state = ready }

abbrev pub steady_world : (load : ℤ) → World
steady_world load = with_indicator eight_pages (steady load)

abbrev pub some_entries : Entries
some_entries = record { day = 9500; minute = 615; mark = codes "KL4420"; unit_price = 18555 }

-- ---- A weighing from the opening to the ticket line

-- the answers to a list of calls
abbrev pub answers : World → List Call → List Answer
answers w [] = []
answers w (c ∷ cs) = let r : Answer × World = acts c w in r.0 ∷ answers r.1 cs

-- an empty platform, a lorry that is weighed with a preset tare, stored and printed, and then is to be weighed a second time
abbrev pub a_weighing : List Call
a_weighing =
    opening some_settings ∷ sample (pos 0)
    ∷ map sample (pos 12431 ∷ pos 12432 ∷ pos 12430 ∷ pos 12429 ∷ pos 12430 ∷ pos 12431 ∷ pos 12433 ∷ pos 12430 ∷ [])
    ++ (key (preset_tare (pos 426)) ∷ weigh some_entries ∷ store ∷ print 1 76
    ∷ weigh (record { day = 9500; minute = 616; mark = codes "KL4420"; unit_price = 18555 }) ∷ [])

-- its ticket line
abbrev pub a_line : List ℕ
a_line = codes "0000000001 09500 0615 KL4420   20 024860 T  008520 016340 0018555 000303189" ++ (10 ∷ [])

-- its record
abbrev pub a_record : Record
a_record = record {
  number = 1;
  day = 9500;
  minute = 615;
  interval = 4;
  gross = 1243;
  tare_kind = 2;
  tare = 426;
  net = 817;
  unit_price = 18555;
  price = 303189;
  mark = typed_mark (codes "KL4420");
}

-- its row
abbrev pub a_row : List ℕ
a_row =
    0xa1 ∷ 0x00 ∷ 0x00 ∷ 0x00 ∷ 0x01 ∷ 0x25 ∷ 0x1c ∷ 0x4c ∷ 0xf0 ∷ 0x4d ∷ 0xb8 ∷ 0x1a ∷ 0xa0 ∷ 0xcc ∷ 0x41 ∷ 0x21
    ∷ 0xec ∷ 0x00 ∷ 0x94 ∷ 0x0a ∷ 0xaa ∷ 0xac ∷ 0x28 ∷ 0xa1 ∷ 0x82 ∷ 0x00 ∷ 0x1f ∷ 0xff ∷ 0xff ∷ 0xff ∷ 0xff ∷ 0x94 ∷ []

-- ---- The cases

pub record WorkedCases : Type 0 where
  -- tenths 4, 5, -4, -5 round to 0, 1, 0, -1
  pub tenths_round : (rounded (pos 4) ≡ pos 0) × (rounded (pos 5) ≡ pos 1) × (rounded (negsuc 3) ≡ pos 0) × (rounded (negsuc 4) ≡ negsuc 0)
  -- samples with the sum 99,476 have the mean 12,435 and, with zero 0, the gross weight 1,244
  pub mean_then_gross : (window : List ℤ) → sum window ≡ pos 99476 → (mean window ≡ pos 12435) × (gross_of window (pos 0) ≡ pos 1244)
  -- and there are eight such samples
  pub eight_such_samples : sum (replicate 4 (pos 12434) ++ replicate 4 (pos 12435)) ≡ pos 99476
  -- n is 3,000: a mean of 600 sets the zero, since 5 times 600 is 3,000; -601 is refused
  pub zero_range :
      (acts (key set_zero) (steady_world (pos 600)) ≡ (done, with_indicator eight_pages (with_zero (steady (pos 600)) (pos 600))))
      × (acts (key set_zero) (steady_world (negsuc 600)) ≡ (refuses 11 0, steady_world (negsuc 600)))
  -- a gross weight of 20 is weighed, 19 is under the smallest load of class 3
  pub smallest_load :
      ((acts (weigh some_entries) (steady_world (pos 200))).0 ≡ done) × ((acts (weigh some_entries) (steady_world (pos 190))).0 ≡ refuses 17 0)
  -- a gross weight of 3,009 is weighed, 3,010 is over the largest load by more than 9
  pub largest_load :
      ((acts (weigh some_entries) (steady_world (pos 30090))).0 ≡ done) × ((acts (weigh some_entries) (steady_world (pos 30100))).0 ≡ refuses 18 0)
  -- at 1 cent per tonne 499 kg cost nothing, 500 kg a cent
  pub half_a_cent : (price_of 499 1 ≡ 0) × (price_of 500 1 ≡ 1)
  -- a record and its 32 bytes
  pub packed : packing a_record ≡ a_row
  -- records of day 9,500 are kept 90 days: a release passes on day 9,590, and finds nothing in a blank memory; on day 9,589 it is refused
  pub keeping_time_ends :
      ((acts (release (record { day = 9500; today = 9590; keep = None })) (steady_world (pos 0))).0 ≡ gives 0)
      × ((acts (release (record { day = 9500; today = 9589; keep = None })) (steady_world (pos 0))).0 ≡ refuses 31 0)
  -- a weighing is stored under number 1 and printed; the lorry is not weighed again before the platform was empty
  pub weighed_once : answers eight_pages a_weighing ≡ replicate 12 done ++ (gives 1 ∷ prints a_line ∷ refuses 16 0 ∷ [])

-- ---- Lines of a trace

-- what the line of a text asks for
abbrev pub asked : (text : List ℕ) → Option Command
asked text = command_of (text ++ (10 ∷ []))

pub record WorkedLines : Type 0 where
  -- the lines of the weighing above, and of the other calls
  pub begins : (asked (codes "B F 3 20 3000") ≡ Some (to_begin flash 3 20 3000)) × (asked (codes "B S 003 020 3000") ≡ Some (to_begin sectors 3 20 3000))
  pub samples : (asked (codes "S 12431") ≡ Some (to_sample (pos 12431))) × (asked (codes "S 000000000") ≡ Some (to_sample (pos 0)))
  pub keys :
      (asked (codes "Z") ≡ Some (to_press set_zero)) × (asked (codes "T") ≡ Some (to_press take_tare)) × (asked (codes "N") ≡ Some (to_press clear_tare))
      × (asked (codes "P 426") ≡ Some (to_press (preset_tare (pos 426))))
  pub weighs : asked (codes "W 9500 615 KL4420 18555") ≡ Some (to_weigh some_entries)
  pub others :
      (asked (codes "O") ≡ Some to_reopen) × (asked (codes "R 9500 65535") ≡ Some (to_release 9500 65535)) × (asked (codes "L 7") ≡ Some (to_print 7))
  -- a minus goes before a load, once, and is none of its digits
  pub minus :
      (asked (codes "S -0") ≡ Some (to_sample (pos 0))) × (asked (codes "S -000000001") ≡ Some (to_sample (negsuc 0))) × (asked (codes "S -") ≡ None)
      × (asked (codes "S --1") ≡ None) × (asked (codes "S +1") ≡ None) × (asked (codes "P -1") ≡ None)
  -- ten digits, nine bytes, a day too late
  pub too_long :
      (asked (codes "P 0000000000") ≡ None) × (asked (codes "W 1 2 ABCDEFGHI 3") ≡ None) × (asked (codes "W 65536 2 A 3") ≡ None)
      × (asked (codes "R 65536 1") ≡ None) × (asked (codes "R 1 65536") ≡ None)
  -- a mark may be any bytes but a space
  pub any_mark :
      (asked (codes "W 1 2 a-b 3") ≡ Some (to_weigh (record { day = 1; minute = 2; mark = codes "a-b"; unit_price = 3 })))
      × (asked (codes "W 1 2 A B 3") ≡ None)
  -- a mark has its own place in its line, also where the same bytes stand before it
  pub mark_places : (mark_place (codes "W 9500 615 KL4420 18555" ++ (10 ∷ [])) ≡ 11) × (mark_place (codes "W 22 2 22 5" ++ (10 ∷ [])) ≡ 7)
  -- one space before each field, and nothing else
  pub spaces :
      (asked [] ≡ None) × (asked (codes "Z ") ≡ None) × (asked (codes " Z") ≡ None) × (asked (codes "L  1") ≡ None) × (asked (codes "L 1 ") ≡ None)
      × (asked (codes "Z" ++ (13 ∷ [])) ≡ None)
  -- capital letters, and kinds of one
  pub letters :
      (asked (codes "z") ≡ None) × (asked (codes "X") ≡ None) × (asked (codes "ZZ") ≡ None) × (asked (codes "B f 3 20 3000") ≡ None)
      × (asked (codes "B FS 3 20 3000") ≡ None)
  -- each line ends in a line feed; one that does not is still a line
  pub unended : (command_of (codes "Z") ≡ None) × (lines (codes "Z" ++ (10 ∷ (10 ∷ codes "T"))) ≡ (90 ∷ 10 ∷ []) ∷ (10 ∷ []) ∷ (84 ∷ []) ∷ [])
  pub no_lines : (lines [] ≡ []) × (lines (90 ∷ 10 ∷ []) ≡ (90 ∷ 10 ∷ []) ∷ [])
