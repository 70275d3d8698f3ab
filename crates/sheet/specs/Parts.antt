-- A sheet that comes in parts: its reader steps through each part, goes on with the next one where that is used up, and
-- finishes behind the last. What it is told so is what is told of the parts joined: PartsLaws.
use Rattle.std.specs.Prelude.{◌≡◌, List, [], ◌∷◌, ℕ, drop}
use Rattle.sheet.specs.declared.Order.{Order}
use Rattle.sheet.specs.declared.Place.{Place}
use Rattle.sheet.specs.Stepped.{Stepped}
use Rattle.sheet.specs.Stepped as step
use Rattle.sheet.specs.Finished.{Finished}
use Rattle.sheet.specs.Finished as finish
use Rattle.sheet.specs.Sheet.{ended, refused, Told, nothing_but, ◌before◌}
use Rattle.sheet.specs.Reading.{line_start, begun_of, step_of, held_after, finish_of}

-- where a reader stands: the place in the sheet, the memory lent, the part at hand and the place of the next byte in it
pub record Reader : Type 0 where
  pub place : Place
  pub held : List ℕ
  pub part : List ℕ
  pub from : ℕ

-- what a step gives there, and the memory behind it
abbrev pub steps : Reader → Stepped
steps r = step_of r.place.line (begun_of r.place r.held) (drop r.from r.part) r.from

abbrev pub kept : Reader → List ℕ
kept r = held_after r.place r.held (drop r.from r.part)

-- it starts with nothing at hand
abbrev pub at_start : List ℕ → Reader
at_start held = record { place = line_start 1; held = held; part = []; from = 0 }

-- how a sheet that is finished ends
abbrev pub finished : Finished → Told
finished finish.Ended = nothing_but ended
finished (finish.Refused code line) = nothing_but (refused code line)

-- what a reader is told of the part at hand and the parts to come
pub data Feeds : Reader → List (List ℕ) → Told → Type 0 where
  goes_on :
      {r : Reader} {p : Place} {part : List ℕ} {parts : List (List ℕ)} {t : Told} → steps r ≡ step.More p →
      Feeds (record { place = p; held = kept r; part = part; from = 0 }) parts t → Feeds r (part ∷ parts) t
  orders :
      {r : Reader} {o : Order} {end : ℕ} {p : Place} {parts : List (List ℕ)} {t : Told} → steps r ≡ step.Order o end p →
      Feeds (record { place = p; held = kept r; part = r.part; from = end }) parts t → Feeds r parts (o before t)
  refuses :
      {r : Reader} {code line : ℕ} {parts : List (List ℕ)} → steps r ≡ step.Refused code line →
      Feeds r parts (nothing_but (refused code line))
  finishes : {r : Reader} {p : Place} → steps r ≡ step.More p → Feeds r [] (finished (finish_of p))
