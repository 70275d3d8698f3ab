-- The events of a tape.
use Rattle.std.specs.Prelude.{ℕ, zero, suc, ◌*◌, List, [], ◌∷◌, cond, length, get_or, ltb, eqb, Option, Some, None, Result, Ok, Err}
use Rattle.units.specs.Units.{cents}
use Rattle.numeral.specs.declared.Refusal as number
use Rattle.numeral.specs.Number.{Number as Numeral, number_at}
use Rattle.entry.specs.Numbers.{entry_numbers, bulk, from1to}
use Rattle.entry.specs.declared.Away as entry_away
use Rattle.entry.specs.declared.Settings as entry
use Rattle.tape.specs.declared.Event.{Event}
use Rattle.tape.specs.declared.Event.TheVariants.{Settings, Away, Submit, Turn, Open}
use Rattle.tape.specs.declared.Refusal.{Refusal}
use Rattle.tape.specs.declared.Refusal.TheVariants.{Number, NoSuchEvent, NoSuchCount}
use Rattle.tape.specs.declared.Refused.{Refused}

-- an event with the place after its last number, or none where the tape ends between two events, or a refusal with the
-- place of the bad number
abbrev pub Reading : Type 0
Reading = Result (Option (Event × ℕ)) Refused

abbrev pub refusal_at : Refusal → ℕ → Refused
refusal_at why place = record { why = why; place = place }

-- how an event is spelt, number by number: it is whole, or the number just read is bad by a refusal, or one more number
-- comes, and what follows depends on it
pub data Form : Type 0 where
  whole : Event → Form
  bad : Refusal → Form
  more : (ℕ → Form) → Form

-- so many numbers, and what they make
unfoldable pub numbers : ℕ → (List ℕ → Form) → Form
numbers zero f = f []
numbers (suc n) f = more (λ v. numbers n (λ vs. f (v ∷ vs)))

-- the settings come in this order
abbrev pub settings_of : List ℕ → entry.Settings
settings_of v = record {
  allocation = get_or v 0 0;
  grid = get_or v 1 0;
  option = get_or v 2 0;
  strike = cents (get_or v 3 0);
  drill = cents (get_or v 4 0);
  far = cents (get_or v 5 0);
  percent = get_or v 6 0;
  least = cents (get_or v 7 0);
  greatest = cents (get_or v 8 0);
  print = cents (get_or v 9 0);
  close = cents (get_or v 10 0);
}

-- settings are eleven numbers
abbrev pub settings_numbers : ℕ
settings_numbers = 11

unfoldable pub settings : Form
settings = numbers settings_numbers (λ v. whole (Settings (settings_of v)))

-- away (bid, offer)
abbrev pub away_of : List ℕ → entry_away.Away
away_of v = record { bid = cents (get_or v 0 0); offer = cents (get_or v 1 0) }

unfoldable pub away : Form
away = numbers 2 (λ v. whole (Away (away_of v)))

-- a bulk's entries, in numbers; 34 a count not 1 to 20
unfoldable pub entries : ℕ → ℕ → Form
entries tenant count = cond (from1to bulk count) (numbers (entry_numbers * count) (λ v. whole (Submit tenant count))) (bad NoSuchCount)

-- submit (tenant, count, entries)
unfoldable pub submit : Form
submit = more (λ tenant. more (entries tenant))

-- a kind of event: its number, and how it is spelt behind that
infix 20 ◌spelt◌
pub record Kind : Type 0 where
  pub number : ℕ
  pub form : Form

abbrev pub ◌spelt◌ : ℕ → Form → Kind
n spelt form = record { number = n; form = form }

-- 1 settings, 2 away, 3 submit, 4 turn, 5 open
abbrev pub kinds : List Kind
kinds =
    (1 spelt settings)
    ∷ (2 spelt away)
    ∷ (3 spelt submit)
    ∷ (4 spelt whole Turn)
    ∷ (5 spelt whole Open)
    ∷ []

-- how the kind of a number is spelt; 33 is another event number
unfoldable pub form_in : List Kind → ℕ → Form
form_in [] n = bad NoSuchEvent
form_in (k ∷ ks) n = cond (eqb n k.number) k.form (form_in ks n)

unfoldable pub form_of : ℕ → Form
form_of n = form_in kinds n

unfoldable pub event : Form
event = more form_of

-- what follows a number that was read, or else what follows its refusal
abbrev pub after : {A : Type 0} → Numeral → (ℕ → ℕ → A) → (number.Refusal → A) → A
after (Ok (v, next)) f g = f v next
after (Err why) f g = g why

-- what is read from a place on, the number read last being at the place `last`: an event with the place after it, or a
-- refusal with the place of the bad number's first byte, whether its bytes are bad or what they spell
unfoldable pub reading : Form → List ℕ → ℕ → ℕ → Reading
reading (whole e) s last at = Ok (Some (e, at))
reading (bad why) s last at = Err (refusal_at why last)
reading (more f) s last at = after (number_at s at) (λ v next. reading (f v) s at next) (λ why. Err (refusal_at (Number why) at))

-- a tape that ends between events is at its end
unfoldable pub event_at : List ℕ → ℕ → Reading
event_at s at = cond (ltb at (length s)) (reading event s at at) (Ok None)

-- the numbers that are read from a place on, up to the end of the event or to the refusal
unfoldable pub numbers_at : Form → List ℕ → ℕ → List ℕ
numbers_at (whole e) s at = []
numbers_at (bad why) s at = []
numbers_at (more f) s at = after (number_at s at) (λ v next. v ∷ numbers_at (f v) s next) (λ why. [])

-- of an event's numbers those of its entries: what a submit has after its event number, tenant and count
unfoldable pub entries_of : List ℕ → List ℕ
entries_of [] = []
entries_of (kind ∷ []) = []
entries_of (kind ∷ tenant ∷ []) = []
entries_of (kind ∷ tenant ∷ count ∷ vs) = cond (eqb kind 3) vs []

-- lent memory with numbers stored from its front, as far as it reaches; the rest is as found
unfoldable pub stored : List ℕ → List ℕ → List ℕ
stored [] out = out
stored (v ∷ vs) [] = []
stored (v ∷ vs) (x ∷ out) = v ∷ stored vs out

-- the numbers of entries that are read at a place, before a refusal too
abbrev pub entries_at : List ℕ → ℕ → List ℕ
entries_at s at = entries_of (numbers_at event s at)

-- lent memory after an event
unfoldable pub entries_after : List ℕ → ℕ → List ℕ → List ℕ
entries_after s at out = stored (entries_at s at) out
