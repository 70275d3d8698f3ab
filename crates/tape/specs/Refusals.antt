-- By which number a tape is refused, and where: each of 30 to 34 exactly in its case.
use Rattle.std.specs.Prelude.{◌≡◌, Bool, ◌↔◌, ◌⊎◌, List, ◌∷◌, ℕ, zero, suc, ◌*◌, ◌≤◌, ◌<◌, leb, length, Ok, Err}
use Rattle.std.proofs.Math.Path.{refl, sym}
use Rattle.std.proofs.Common.{ap, ◌∙◌, le-leb}
use Rattle.std.proofs.Math.Bool.{true, false}
use Rattle.std.proofs.Math.Logic.{inl, inr, ⊎_elim}
use native.Mathlib.Omega.{arith}
use Rattle.units.specs.Tests.{and_holds, holds_not_fails}
use Rattle.numeral.specs.declared.Refusal as number
use Rattle.numeral.specs.declared.Refusal.TheVariants as numbered
use Rattle.numeral.specs.Number.{refusal_number as number_of, number_at}
use Rattle.numeral.specs.Cases.{below, numbers_differ}
use Rattle.numeral.specs.Laws.{place}
use Rattle.numeral.specs.Window.{answer, is_read, is_refused}
use Rattle.entry.specs.Numbers.{entry_numbers, bulk, from1to}
use Rattle.entry.specs.NumberLaws.{from1to_bounds}
use Rattle.tape.specs.declared.Event.{Event}
use Rattle.tape.specs.declared.Event.TheVariants.{Settings, Away, Submit, Turn, Open}
use Rattle.tape.specs.declared.Refusal.{Refusal}
use Rattle.tape.specs.declared.Refusal.TheVariants.{Number, NoSuchEvent, NoSuchCount}
use Rattle.tape.specs.declared.Refused.{Refused}
use Rattle.tape.specs.Refusal.{refusal_number}
use Rattle.tape.specs.Tape.{Reading, refusal_at, Form, whole, bad, more, numbers, settings_numbers, settings_of, settings, away_of, away, entries, submit, kinds, form_in, form_of, event, reading, event_at}
use Rattle.tape.specs.Kinds.{Each, all, ◌also◌, NoneHas, each_or_none, none_has}
use Rattle.tape.specs.Steps.{entries_bad, entries_several}
use Rattle.tape.specs.TapeLaws.{refused_read, refusal_same, on_tape, past_tape, end_refused, refused_place}

-- the event at a place is refused by a number, with the place of the bad number
abbrev pub RefusedBy : List ℕ → ℕ → ℕ → ℕ → Type 0
RefusedBy s q code p = (r : Refused) × (event_at s q ≡ Err r) × (refusal_number r.why ≡ code) × (r.place ≡ p)

-- ---- the cases

-- 33: the event number, at the event's place, is read and is not 1 to 5
pub record OtherEvent (s : List ℕ) (at p : ℕ) : Type 0 where
  pub here : p ≡ at
  pub kind : ℕ
  pub next : ℕ
  pub read : number_at s at ≡ Ok (kind, next)
  pub none : (kind < 1) ⊎ (5 < kind)

-- 34: of a submit, the count is read and is not 1 to 20; its place is where the tenant ends
pub record BadCount (s : List ℕ) (at p : ℕ) : Type 0 where
  pub behind : ℕ
  pub tenant : ℕ
  pub count : ℕ
  pub next : ℕ
  pub submits : number_at s at ≡ Ok (3, behind)
  pub of_tenant : number_at s behind ≡ Ok (tenant, p)
  pub read : number_at s p ≡ Ok (count, next)
  pub outside : (count < 1) ⊎ (bulk < count)

-- ---- the proofs

-- a form in which no number that is read is bad
data NoneBad : Form → Type 0 where
  none_whole : {e : Event} → NoneBad (whole e)
  none_more : {f : ℕ → Form} → ((v : ℕ) → NoneBad (f v)) → NoneBad (more f)

numbers_none : (n : ℕ) (f : List ℕ → Event) → NoneBad (numbers n (λ v. whole (f v)))
unfolding numbers
numbers_none zero f = none_whole
numbers_none (suc n) f = none_more (λ v. numbers_none n (λ vs. f (v ∷ vs)))

-- the number of a refusal by the bytes of a number is 30 to 32
number_codes : (k : number.Refusal) → (30 ≤ number_of k) × (number_of k ≤ 32)
number_codes numbered.CutShort = (omega arith, omega arith)
number_codes numbered.Padded = (omega arith, omega arith)
number_codes numbered.TooLarge = (omega arith, omega arith)

module _ (s : List ℕ) (why : Refusal) (p : ℕ) where
  -- it is refused by the bytes of a number, at its place
  abbrev pub ByBytes : Type 0
  ByBytes = (k : number.Refusal) × (Number k ≡ why) × (number_at s p ≡ Err k)

  -- what is refused at a number's place by the number's own refusal
  same_refusal : {k : number.Refusal} {at : ℕ} → number_at s at ≡ Err k → ◌≡◌ {A = Reading} (Err (refusal_at (Number k) at)) (Err (refusal_at why p)) → ByBytes
  same_refusal {k} {at} r same = let e = refusal_same same in (k, e.0, rw e.1 at r)

  -- it is refused by the bytes of a number alone
  by_bytes : (form : Form) (last at : ℕ) → NoneBad form → reading form s last at ≡ Err (refusal_at why p) → ByBytes
  unfolding reading
  by_bytes (whole e) last at none q = absurd (refused_read why p e at (sym q))
  by_bytes (bad _) last at none q = elim none [ ]
  by_bytes (more f) last at (none_more none) q = elim (answer (number_at s at)) [
    | is_read v next r ↦ by_bytes (f v) at next (none v) (rw r at q)
    | is_refused k r ↦ same_refusal r (rw r at q)
  ]

  -- so by 30 to 32
  byte_codes : ByBytes → (30 ≤ refusal_number why) × (refusal_number why ≤ 32)
  byte_codes (k, e, is) = rw (← e) (number_codes k)

  -- a count is outside 1 to 20, or inside
  counted : (count : ℕ) → from1to bulk count ≡ false → (count < 1) ⊎ (bulk < count)
  unfolding from1to
  counted count fails = ⊎_elim inl (λ least. ⊎_elim
      (λ big. inr big)
      (λ most. absurd (holds_not_fails (and_holds (leb 1 count) _ (le-leb 1 count least) (le-leb count bulk most)) fails))
      (below bulk count)) (below count 1)

  outside_34 : (tenant count : ℕ) → (count < 1) ⊎ (bulk < count) → entries tenant count ≡ bad NoSuchCount
  outside_34 tenant count out = entries_bad tenant count (go (from1to bulk count) refl)
    where
      go : (t : Bool) → from1to bulk count ≡ t → from1to bulk count ≡ false
      go false e = e
      go true e = let is_in_range = from1to_bounds bulk count e in absurd (⊎_elim (λ l. omega arith) (λ l. omega arith) out)

  -- behind the event number of a kind 34 is given for the count of a submit alone, and 33 not at all
  module _ (at next : ℕ) where
    abbrev Known : ℕ → Form → Type 0
    Known kind form = reading form s at next ≡ Err (refusal_at why p)
        → ByBytes
        ⊎ ((why ≡ NoSuchCount) × (number_at s at ≡ Ok (kind, next) → BadCount s at p))

    submit_known : Known 3 submit
    unfolding reading submit
    submit_known q = elim (answer (number_at s next)) [
      | is_read tenant from r ↦ elim (answer (number_at s from)) [
        | is_read count end z ↦ go tenant from count end r z (from1to bulk count) refl (rw (r, z) at q)
        | is_refused k z ↦ inl (same_refusal z (rw (r, z) at q))
      ]
      | is_refused k r ↦ inl (same_refusal r (rw r at q))
    ]
      where
        go : (tenant from count end : ℕ) → number_at s next ≡ Ok (tenant, from) → number_at s from ≡ Ok (count, end)
            → (t : Bool) → from1to bulk count ≡ t → reading (entries tenant count) s from end ≡ Err (refusal_at why p)
            → ByBytes ⊎ ((why ≡ NoSuchCount) × (number_at s at ≡ Ok (3, next) → BadCount s at p))
        go tenant from count end r z true e x =
            inl (by_bytes (numbers (entry_numbers * count) (λ v. whole (Submit tenant count))) from end
            (numbers_none (entry_numbers * count) (λ v. Submit tenant count)) (rw (entries_several tenant count e) at x))
        go tenant from count end r z false e x =
            let same = refusal_same (rw (entries_bad tenant count e) at x) in
            let place : from ≡ p = same.1 in
            inr (
              sym same.0,
              λ three. record {
                behind = next;
                tenant = tenant;
                count = count;
                next = end;
                submits = three;
                of_tenant = rw place at r;
                read = rw place at z;
                outside = counted count e;
              },
            )

    kinds_known : Each Known kinds
    unfolding settings away
    kinds_known =
        (λ q. inl (by_bytes settings at next (numbers_none settings_numbers (λ v. Settings (settings_of v))) q))
        also (λ q. inl (by_bytes away at next (numbers_none 2 (λ v. Away (away_of v))) q))
        also submit_known
        also (λ q. inl (by_bytes (whole Turn) at next none_whole q))
        also (λ q. inl (by_bytes (whole Open) at next none_whole q))
        also all

-- why an event is refused: the bytes of a number are, or the event number is another, or a count is not 1 to 20
pub data Why (s : List ℕ) (at p : ℕ) : Refusal → Type 0 where
  bytes : {k : number.Refusal} → number_at s p ≡ Err k → Why s at p (Number k)
  other : OtherEvent s at p → Why s at p NoSuchEvent
  counts : BadCount s at p → Why s at p NoSuchCount

of_bytes : {s : List ℕ} {at p : ℕ} {r : Refusal} → ByBytes s r p → Why s at p r
of_bytes (k, e, is) = rw (← e) (bytes is)

no_kind : (kind : ℕ) → NoneHas kinds kind → (kind < 1) ⊎ (5 < kind)
no_kind kind none = ⊎_elim inl
    (λ least. ⊎_elim inr
    (λ most. absurd (omega (arith, none.0, none.1.0, none.1.1.0, none.1.1.1.0, none.1.1.1.1.0)))
    (below 5 kind))
    (below kind 1)

pub why : (s : List ℕ) (at : ℕ) (r : Refusal) (p : ℕ) → event_at s at ≡ Err (refusal_at r p) → Why s at p r
unfolding reading event form_of
why s at w p q = ⊎_elim (λ h. go (sym (on_tape s at h) ∙ q)) (λ h. absurd (end_refused w p (sym (past_tape s at h) ∙ q))) (below at (length s))
  where
    go : reading event s at at ≡ Err (refusal_at w p) → Why s at p w
    go f = elim (answer (number_at s at)) [
      | is_refused k r ↦ of_bytes (same_refusal s w p r (rw r at f))
      | is_read kind next r ↦ ⊎_elim
          (λ known. ⊎_elim of_bytes (λ (c, of_count). rw c (counts (of_count r))) (known (rw r at f)))
          (λ none.
          let same = refusal_same (sym (ap (λ form. reading form s at next) (none_has kinds kind none)) ∙ (rw r at f)) in
          rw (← same.0) (other (record { here = sym same.1; kind = kind; next = next; read = r; none = no_kind kind none })))
          (each_or_none (Known s w p at next) kinds kind (kinds_known s w p at next))
    ]

none_known : (kind : ℕ) → (kind < 1) ⊎ (5 < kind) → NoneHas kinds kind
none_known kind out = (
  not 1 (omega arith) (omega arith),
  (not 2 (omega arith) (omega arith), (not 3 (omega arith) (omega arith), (not 4 (omega arith) (omega arith), (not 5 (omega arith) (omega arith), tt)))),
)
  where
    not : (k : ℕ) → 1 ≤ k → k ≤ 5 → kind ≡ k → ⊥
    not k low high e = ⊎_elim (λ l. omega arith) (λ l. omega arith) out

-- a number that is read stands on the tape
read_on_tape : (s : List ℕ) (at v next : ℕ) → number_at s at ≡ Ok (v, next) → at < length s
read_on_tape s at v next r = let m = place s at v next r in omega (arith, m.0, m.1)

-- no such event is another event number, given at its place
pub exactly_event : (s : List ℕ) (at p : ℕ) → (event_at s at ≡ Err (refusal_at NoSuchEvent p)) ↔ OtherEvent s at p
unfolding reading event form_of
exactly_event s at p = (λ q. told (why s at NoSuchEvent p q) refl, gives)
  where
    told : {w : Refusal} → Why s at p w → w ≡ NoSuchEvent → OtherEvent s at p
    told (bytes r) e = absurd (cc)
    told (other o) e = o
    told (counts c) e = absurd (cc)

    gives : OtherEvent s at p → event_at s at ≡ Err (refusal_at NoSuchEvent p)
    gives o = on_tape s at (read_on_tape s at o.kind o.next o.read)
        ∙ rw (o.here, o.read) (ap (λ form. reading form s at o.next) (none_has kinds o.kind (none_known o.kind o.none)))

-- no such count is one not 1 to 20, given at its place
pub exactly_count : (s : List ℕ) (at p : ℕ) → (event_at s at ≡ Err (refusal_at NoSuchCount p)) ↔ BadCount s at p
unfolding reading event form_of form_in submit
exactly_count s at p = (λ q. told (why s at NoSuchCount p q) refl, gives)
  where
    told : {w : Refusal} → Why s at p w → w ≡ NoSuchCount → BadCount s at p
    told (bytes r) e = absurd (cc)
    told (other o) e = absurd (cc)
    told (counts c) e = c

    gives : BadCount s at p → event_at s at ≡ Err (refusal_at NoSuchCount p)
    gives c = on_tape s at (read_on_tape s at 3 c.behind c.submits)
        ∙ rw (c.submits, c.of_tenant, c.read)
        (ap (λ form. reading form s p c.next) (outside_34 s NoSuchCount p c.tenant c.count c.outside))

-- any other refusal is that of a number's bytes, at the number's place
pub by_bytes_alone : (s : List ℕ) (at : ℕ) (k : number.Refusal) (p : ℕ) → event_at s at ≡ Err (refusal_at (Number k) p) → number_at s p ≡ Err k
by_bytes_alone s at k p q = told (why s at (Number k) p q) refl
  where
    told : {w : Refusal} → Why s at p w → w ≡ Number k → number_at s p ≡ Err k
    told (bytes {k = j} r) e = let same : j ≡ k = cc in rw same at r
    told (other o) e = absurd (cc)
    told (counts c) e = absurd (cc)

-- ---- by their numbers

-- each refusal has a number of its own
pub refusal_one : (a b : Refusal) → refusal_number a ≡ refusal_number b → a ≡ b
refusal_one (Number j) (Number k) e = ap Number (numbers_differ j k e)
refusal_one (Number j) NoSuchEvent e = absurd (omega (arith, number_codes j))
refusal_one (Number j) NoSuchCount e = absurd (omega (arith, number_codes j))
refusal_one NoSuchEvent (Number k) e = absurd (omega (arith, number_codes k))
refusal_one NoSuchEvent NoSuchEvent e = refl
refusal_one NoSuchEvent NoSuchCount e = absurd (omega arith)
refusal_one NoSuchCount (Number k) e = absurd (omega (arith, number_codes k))
refusal_one NoSuchCount NoSuchEvent e = absurd (omega arith)
refusal_one NoSuchCount NoSuchCount e = refl

-- so it is refused by that number, at that place, exactly if it is refused so
by_its_number : (s : List ℕ) (at : ℕ) (w : Refusal) (p : ℕ) → RefusedBy s at (refusal_number w) p ↔ (event_at s at ≡ Err (refusal_at w p))
by_its_number s at w p = (
  (λ (r, is, code, here). let same : r.why ≡ w = refusal_one r.why w code in is ∙ rw (← same, ← here) refl),
  (λ is. (refusal_at w p, is, refl, refl)),
)

-- 33 is another event number, given at its place
pub exactly_33 : (s : List ℕ) (at p : ℕ) → RefusedBy s at 33 p ↔ OtherEvent s at p
exactly_33 s at p =
    let told = by_its_number s at NoSuchEvent p in
    let is = exactly_event s at p in
    ((λ by. is.0 (told.0 by)), (λ o. told.1 (is.1 o)))

-- 34 is a count not 1 to 20, given at its place
pub exactly_34 : (s : List ℕ) (at p : ℕ) → RefusedBy s at 34 p ↔ BadCount s at p
exactly_34 s at p =
    let told = by_its_number s at NoSuchCount p in
    let is = exactly_count s at p in
    ((λ by. is.0 (told.0 by)), (λ o. told.1 (is.1 o)))

-- any other refusal is that of a number's bytes, by its number and at its place (`exactly`, of numerals, says which of
-- 30 to 32)
pub by_number : (s : List ℕ) (at code p : ℕ) → RefusedBy s at code p → code < 33 → (k : number.Refusal) × (number_at s p ≡ Err k) × (number_of k ≡ code)
by_number s at code p (r, is, by, here) low = go r.why refl
  where
    go : (why : Refusal) → r.why ≡ why → (k : number.Refusal) × (number_at s p ≡ Err k) × (number_of k ≡ code)
    go (Number k) e =
        let so : event_at s at ≡ Err (refusal_at (Number k) p) = is ∙ rw (← e, ← here) refl in
        (k, by_bytes_alone s at k p so, sym (ap refusal_number e) ∙ by)
    go NoSuchEvent e = absurd (omega (arith, ap refusal_number e, by, low))
    go NoSuchCount e = absurd (omega (arith, ap refusal_number e, by, low))

-- the place of a refusal is that of a number of the event, or the tape's length where the number is missing altogether,
-- by 30
pub place_by : (s : List ℕ) (at code p : ℕ) → RefusedBy s at code p → (at ≤ p) × ((p < length s) ⊎ ((p ≡ length s) × (code ≡ 30)))
place_by s at code p (r, is, by, here) =
    let so : event_at s at ≡ Err (refusal_at r.why p) = is ∙ rw (← here) refl in
    let z = refused_place s at r.why p so in
    (z.0, ⊎_elim inl (λ (end, short). inr (end, sym by ∙ ap refusal_number short)) z.1)
