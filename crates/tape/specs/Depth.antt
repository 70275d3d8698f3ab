-- How many numbers an event has at most, and how many bytes.
use Rattle.std.specs.Prelude.{◌≡◌, refl, Bool, true, false, cond, List, ◌∷◌, ℕ, zero, suc, ◌+◌, ◌*◌, ◌≤◌}
use Rattle.std.proofs.Common.{arith}
use Rattle.numeral.specs.Number.{groups}
use Rattle.entry.specs.Numbers.{entry_numbers, bulk, bulk_numbers, from1to}
use Rattle.entry.specs.NumberLaws.{from1to_bounds}
use Rattle.tape.specs.declared.Event.{Event}
use Rattle.tape.specs.declared.Event.TheVariants.{Settings, Away, Submit}
use Rattle.tape.specs.declared.Refusal.{Refusal}
use Rattle.tape.specs.declared.Refusal.TheVariants.{NoSuchCount}
use Rattle.tape.specs.Tape.{Form, whole, bad, more, numbers, settings_numbers, settings_of, settings, away_of, away, entries, submit, kinds, form_of, event}
use Rattle.tape.specs.Kinds.{Each, all, ◌also◌, each_form}

-- at most so many numbers
pub data Within : ℕ → Form → Type 0 where
  whole_within : {n : ℕ} {e : Event} → Within n (whole e)
  bad_within : {n : ℕ} {why : Refusal} → Within n (bad why)
  more_within : {n : ℕ} {f : ℕ → Form} → ((v : ℕ) → Within n (f v)) → Within (suc n) (more f)

numbers_within : (n m : ℕ) (f : List ℕ → Event) → n ≤ m → Within m (numbers n (λ v. whole (f v)))
unfolding numbers
numbers_within zero m f h = whole_within
numbers_within (suc n) zero f h = absurd (omega arith)
numbers_within (suc n) (suc m) f h = more_within (λ v. numbers_within n m (λ vs. f (v ∷ vs)) (omega arith))

entries_within : (tenant count : ℕ) → Within bulk_numbers (entries tenant count)
unfolding entries
entries_within tenant count = go (from1to bulk count) refl
  where
    go :
        (t : Bool) → from1to bulk count ≡ t →
        Within bulk_numbers (cond t (numbers (entry_numbers * count) (λ v. whole (Submit tenant count))) (bad NoSuchCount))
    go true e = numbers_within (entry_numbers * count) bulk_numbers (λ v. Submit tenant count) (omega (arith, from1to_bounds bulk count e))
    go false e = bad_within

-- a submit of the most entries is the longest event: behind its event number stand its tenant, its count and the
-- numbers of its entries
abbrev pub most_behind : ℕ
most_behind = 2 + bulk_numbers

abbrev pub most_numbers : ℕ
most_numbers = 1 + most_behind

abbrev pub most_bytes : ℕ
most_bytes = groups * most_numbers

-- every event of the table is within that
kinds_within : Each (λ n form. Within most_behind form) kinds
unfolding settings away submit
kinds_within =
    numbers_within settings_numbers most_behind (λ v. Settings (settings_of v)) (omega arith)
    also numbers_within 2 most_behind (λ v. Away (away_of v)) (omega arith)
    also more_within (λ tenant. more_within (entries_within tenant))
    also whole_within
    also whole_within
    also all

pub form_within : (kind : ℕ) → Within most_behind (form_of kind)
unfolding form_of
form_within kind = each_form (λ n form. Within most_behind form) kinds kind kinds_within bad_within

pub event_within : Within most_numbers event
unfolding event
event_within = more_within form_within
