-- What is read is determined by the bytes it was read from, and determines them: an event has just one list of numbers,
-- and these just one spelling.
use Rattle.std.specs.Prelude.{◌≡◌, refl, Bool, true, false, List, [], ◌∷◌, ◌++◌, ℕ, ◌+◌, ◌-◌, ◌*◌, ◌≤◌, length, get_or, take, drop, Some, Ok}
use Rattle.std.proofs.Common.{sym, ap, ◌∙◌, subst, arith, take_at}
use Rattle.units.specs.Units.{cents}
use Rattle.units.specs.Places.{table, table_is}
use Rattle.numeral.specs.Laws.{Bytes}
use Rattle.entry.specs.Numbers.{entry_numbers, bulk, bulk_numbers, from1to}
use Rattle.entry.specs.NumberLaws.{from1to_bounds}
use Rattle.tape.specs.declared.Event.{Event}
use Rattle.tape.specs.declared.Event.TheVariants.{Settings, Away, Submit, Turn, Open}
use Rattle.tape.specs.Tape.{Form, whole, numbers, settings_numbers, settings_of, settings, away, entries, submit, kinds, form_in, form_of, event, numbers_at, event_at, entries_of, entries_at, entries_after}
use Rattle.tape.specs.Kinds.{Each, all, ◌also◌, each_form}
use Rattle.tape.specs.Several.{stored_front}
use Rattle.tape.specs.Steps.{entries_bad, entries_several}
use Rattle.tape.specs.Leads.{Leads, several_leads, leads_several, encode_all, Fit, read_leads, read_spelt, leads_read}

-- the numbers that make an event
pub data Spells : List ℕ → Event → Type 0 where
  spells_settings : (v : List ℕ) → length v ≡ settings_numbers → Spells (1 ∷ v) (Settings (settings_of v))
  spells_away : (bid offer : ℕ) → Spells (2 ∷ bid ∷ offer ∷ []) (Away (record { bid = cents bid; offer = cents offer }))
  spells_submit :
      (tenant count : ℕ) (v : List ℕ) → from1to bulk count ≡ true → length v ≡ entry_numbers * count →
      Spells (3 ∷ tenant ∷ count ∷ v) (Submit tenant count)
  spells_turn : Spells (4 ∷ []) Turn
  spells_open : Spells (5 ∷ []) Open

-- the entries of a submit lead to it if the count is 1 to 20 and they are so many
entries_lead :
    (tenant count : ℕ) (vs : List ℕ) → from1to bulk count ≡ true → length vs ≡ entry_numbers * count → Leads (entries tenant count) vs (Submit tenant count)
entries_lead tenant count vs t h =
    subst (λ (form : Form). Leads form vs (Submit tenant count)) (sym (entries_several tenant count t)) (several_leads (entry_numbers * count) (λ w. Submit tenant count) vs h)

-- and only then
lead_entries :
    (tenant count : ℕ) (vs : List ℕ) (e : Event) → Leads (entries tenant count) vs e →
    (from1to bulk count ≡ true) × (length vs ≡ entry_numbers * count) × (Submit tenant count ≡ e)
lead_entries tenant count vs e l = go (from1to bulk count) refl
  where
    go : (t : Bool) → from1to bulk count ≡ t → (from1to bulk count ≡ true) × (length vs ≡ entry_numbers * count) × (Submit tenant count ≡ e)
    go true t =
        let i = leads_several (entry_numbers * count) (λ w. Submit tenant count) vs e (subst (λ (form : Form). Leads form vs e) (entries_several tenant count t) l) in
        (t, i.0, i.1)
    go false t = absurd (subst (λ (form : Form). Leads form vs e) (entries_bad tenant count t) l)

-- the numbers that make an event lead to it
pub spells_leads : (vs : List ℕ) (e : Event) → Spells vs e → Leads event vs e
unfolding event form_of form_in settings numbers away submit
spells_leads _ _ (spells_settings v h) = several_leads settings_numbers (λ w. Settings (settings_of w)) v h
spells_leads _ _ (spells_away bid offer) = refl
spells_leads _ _ (spells_submit tenant count v t h) = entries_lead tenant count v t h
spells_leads _ _ spells_turn = refl
spells_leads _ _ spells_open = refl

-- and no others do
settings_spells : (vs : List ℕ) (e : Event) → Leads settings vs e → Spells (1 ∷ vs) e
unfolding settings
settings_spells vs e l = let i = leads_several settings_numbers (λ w. Settings (settings_of w)) vs e l in rw (← i.1) (spells_settings vs i.0)

away_spells : (vs : List ℕ) (e : Event) → Leads away vs e → Spells (2 ∷ vs) e
unfolding away numbers
away_spells [] e l = absurd l
away_spells (bid ∷ []) e l = absurd l
away_spells (bid ∷ offer ∷ []) e l = rw (← l) (spells_away bid offer)
away_spells (bid ∷ offer ∷ v ∷ vs) e l = absurd l

submit_spells : (vs : List ℕ) (e : Event) → Leads submit vs e → Spells (3 ∷ vs) e
unfolding submit
submit_spells [] e l = absurd l
submit_spells (tenant ∷ []) e l = absurd l
submit_spells (tenant ∷ count ∷ vs) e l = let i = lead_entries tenant count vs e l in rw (← i.2) (spells_submit tenant count vs i.0 i.1)

-- an event that is its number alone
whole_spells : (n : ℕ) (e' : Event) → Spells (n ∷ []) e' → (vs : List ℕ) (e : Event) → Leads (whole e') vs e → Spells (n ∷ vs) e
whole_spells n e' is [] e l = rw (← l) is
whole_spells n e' is (v ∷ vs) e l = absurd l

abbrev FormSpells : ℕ → Form → Type 0
FormSpells n form = (vs : List ℕ) (e : Event) → Leads form vs e → Spells (n ∷ vs) e

kinds_spell : Each FormSpells kinds
kinds_spell =
    settings_spells
    also away_spells
    also submit_spells
    also whole_spells 4 Turn spells_turn
    also whole_spells 5 Open spells_open
    also all

pub leads_spells : (vs : List ℕ) (e : Event) → Leads event vs e → Spells vs e
unfolding event form_of
leads_spells [] e l = absurd l
leads_spells (n ∷ vs) e l = each_form FormSpells kinds n kinds_spell (λ vs e l. absurd l) vs e l

-- an event that is read: its numbers make it, and their encodings are the bytes from its place to its end
pub spelt :
    (s : List ℕ) (at : ℕ) (e : Event) (end : ℕ) → Bytes s → event_at s at ≡ Ok (Some (e, end)) →
    Spells (numbers_at event s at) e × (drop at s ≡ encode_all (numbers_at event s at) ++ drop end s) ×
    (end ≡ at + length (encode_all (numbers_at event s at)))
spelt s at e end b q = let i = read_spelt s at e end b q in (leads_spells _ e (read_leads s at e end q), i.0, i.1)

-- the numbers of an event and of its entries
abbrev pub numbers_of : Event → List ℕ → List ℕ
numbers_of (Settings x) v =
    1 ∷ x.allocation ∷ x.grid ∷ x.option ∷ x.strike.0 ∷ x.drill.0 ∷ x.far.0 ∷ x.percent ∷ x.least.0 ∷ x.greatest.0 ∷ x.print.0 ∷ x.close.0 ∷ []
numbers_of (Away q) v = 2 ∷ q.bid.0 ∷ q.offer.0 ∷ []
numbers_of (Submit tenant count) v = 3 ∷ tenant ∷ count ∷ v
numbers_of Turn v = 4 ∷ []
numbers_of Open v = 5 ∷ []

-- how many numbers of entries an event has
abbrev pub entries_in : Event → ℕ
entries_in (Settings x) = 0
entries_in (Away q) = 0
entries_in (Submit tenant count) = entry_numbers * count
entries_in Turn = 0
entries_in Open = 0

-- no others make it
pub one_spelling : (vs : List ℕ) (e : Event) → Spells vs e → vs ≡ numbers_of e (entries_of vs)
unfolding entries_of table
one_spelling _ _ (spells_settings v h) = ap (λ (l : List ℕ). 1 ∷ l) (table_is (λ i. get_or v i 0) v settings_numbers h (λ i p. refl))
one_spelling _ _ (spells_away bid offer) = refl
one_spelling _ _ (spells_submit tenant count v t h) = refl
one_spelling _ _ spells_turn = refl
one_spelling _ _ spells_open = refl

-- what is read determines the bytes it was read from
pub consumed :
    (s : List ℕ) (at : ℕ) (e : Event) (end : ℕ) → Bytes s → event_at s at ≡ Ok (Some (e, end)) →
    take (end - at) (drop at s) ≡ encode_all (numbers_of e (entries_at s at))
consumed s at e end b q =
    let i = spelt s at e end b q in
    rw i.1 (take_at (encode_all (numbers_at event s at)) (drop end s) (end - at) (omega (arith, i.2))) ∙
    ap encode_all (one_spelling (numbers_at event s at) e i.0)

pub determined :
    (s t : List ℕ) (at at' : ℕ) (e : Event) (end end' : ℕ) → Bytes s → Bytes t →
    event_at s at ≡ Ok (Some (e, end)) → event_at t at' ≡ Ok (Some (e, end')) → entries_at s at ≡ entries_at t at' →
    take (end - at) (drop at s) ≡ take (end' - at') (drop at' t)
determined s t at at' e end end' b c p q same =
    consumed s at e end b p ∙ ap (λ (v : List ℕ). encode_all (numbers_of e v)) same ∙ sym (consumed t at' e end' c q)

-- and the bytes determine what is read: numbers that make an event, encoded, are read as that event, wherever they
-- stand and whatever stands behind
pub read_back :
    (front vs rest : List ℕ) (e : Event) → Fit vs → Spells vs e →
    (event_at (front ++ (encode_all vs ++ rest)) (length front) ≡ Ok (Some (e, length front + length (encode_all vs)))) ×
    (entries_at (front ++ (encode_all vs ++ rest)) (length front) ≡ entries_of vs)
read_back front vs rest e fit l = leads_read front vs rest e fit (spells_leads vs e l)

-- a submit that is read: its count is 1 to 20, and lent memory that reaches holds the numbers of so many entries at its
-- front
pub submitted :
    (s : List ℕ) (at tenant count end : ℕ) (out : List ℕ) → event_at s at ≡ Ok (Some (Submit tenant count, end)) → bulk_numbers ≤ length out →
    (1 ≤ count) × (count ≤ bulk) × (length (entries_at s at) ≡ entry_numbers * count) × (take (entry_numbers * count) (entries_after s at out) ≡ entries_at s at)
unfolding entries_after event form_of form_in submit
submitted s at tenant count end out q enough =
    let l = read_leads s at (Submit tenant count) end q in
    let is = one_spelling (numbers_at event s at) (Submit tenant count) (leads_spells _ _ l) in
    let v : List ℕ = entries_at s at in
    let i = lead_entries tenant count v (Submit tenant count) (subst (λ (vs : List ℕ). Leads event vs (Submit tenant count)) is l) in
    let b = from1to_bounds bulk count i.0 in
    (b.0, b.1, i.1, rw (stored_front v out (omega (arith, b.1, i.1))) (take_at v _ (entry_numbers * count) i.1))
