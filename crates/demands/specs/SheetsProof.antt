-- What is promised of the submits of a sheet holds.
use Rattle.std.specs.Prelude.{◌≡◌, ◌↔◌, ◌⊎◌, true, false, List, [], ◌∷◌, ◌++◌, ℕ, zero, suc, ◌*◌, ◌≤◌, length}
use Rattle.std.proofs.Math.Path.{refl}
use Rattle.std.proofs.Common.{sym, ◌∙◌, inl, inr, ⊎_elim, true≢false, arith}
use Prim.{tt}
use Rattle.std.proofs.Math.Decide.{dec_lt}
use Rattle.units.specs.Tests.{◌and◌}
use Rattle.units.specs.Places.{table}
use Rattle.units.specs.Listed.{listed}
use Rattle.entry.specs.Numbers.{from1to}
use Rattle.entry.specs.Words.{WellFormed}
use Rattle.tape.specs.declared.Event.{Event}
use Rattle.tape.specs.declared.Event.TheVariants as event
use Rattle.tape.specs.Leads.{Fit}
use Rattle.tape.specs.Spelling.{spells_submit}
use Rattle.tape.specs.Whole.{Sent, ended, read_all}
use Rattle.writer.specs.Tapes.{Writable, Events, tape_of, spells, all_spell}
use Rattle.writer.specs.RoundTripProof.{round_trip}
use Rattle.lanes.specs.Ring.{entry_at}
use Rattle.lanes.specs.Waiting.{given_in}
use Rattle.session.specs.Market.{Market}
use Rattle.session.specs.Sound.{Sound}
use Rattle.session.specs.Submit.{submit_of}
use Rattle.sheet.specs.declared.Order.{Order}
use Rattle.sheet.specs.Sheet.{told_of}
use Rattle.sheet.specs.Spelling.{CanSpell}
use Rattle.sheet.specs.Submits.{six_numbers, submits_of}
use Rattle.sheet.specs.Submits as sheet
use Rattle.sheet.specs.OrderSheet.{AllSpell}
use Rattle.sheet.specs.OrderSheetProof.{order_sheet}
use Rattle.demands.specs.InOrder.{GivenInOrder}
use Rattle.demands.specs.Runs.{submit}
use Rattle.demands.specs.Demand2.{submit_rules, waiting_in}
use Rattle.demands.specs.Demand2Refusals.{refused_in_order}
use Rattle.demands.specs.Demand2Stores.{accepted_stores}
use Rattle.demands.specs.Replay.{call_of, calls_of}
use Rattle.demands.specs.Sheets.{submit_calls, answer_to, OutOfRange, SheetSubmits}

-- the numbers of a submit fit 32 bits
module _ (o : Order) (can : CanSpell o) where
  side_most : o.entry.side ≤ 2
  side_most = ⊎_elim (λ e. omega arith) (λ e. omega arith) can.side

  life_most : o.entry.life ≤ 3
  life_most = ⊎_elim (λ e. omega arith) (λ e. omega arith) can.life

  kind_most : o.entry.kind ≤ 2
  kind_most = ⊎_elim (λ (e, _). omega arith) (λ (e, _). omega arith) can.price

  price_most : o.entry.price.0 ≤ 9999999
  price_most = ⊎_elim (λ (_, h). h) (λ (_, e). omega arith) can.price

  fits : Fit (sheet.submit_of o)
  fits zero = omega arith
  fits (suc zero) = omega (arith, can.tenant)
  fits (suc (suc zero)) = omega arith
  fits (suc (suc (suc zero))) = omega (arith, kind_most)
  fits (suc (suc (suc (suc zero)))) = omega (arith, side_most)
  fits (suc (suc (suc (suc (suc zero))))) = omega (arith, life_most)
  fits (suc (suc (suc (suc (suc (suc zero)))))) = omega (arith, price_most)
  fits (suc (suc (suc (suc (suc (suc (suc zero))))))) = omega (arith, can.size)
  fits (suc (suc (suc (suc (suc (suc (suc (suc zero)))))))) = omega (arith, can.number)
  fits (suc (suc (suc (suc (suc (suc (suc (suc (suc i))))))))) = omega arith

  writable : Writable (sheet.submit_of o)
  unfolding from1to ◌and◌
  writable = (fits, (_, spells_submit o.tenant 1 (six_numbers o) refl refl))

all_writable : (os : List Order) → AllSpell os → Events (submits_of os)
all_writable [] can = tt
all_writable (o ∷ os) can = (writable o can.0, all_writable os can.1)

-- an event that is spelt so is a submit of one entry
sent_is : (e : Event) (lent : List ℕ) (o : Order) → spells (record { event = e; numbers = lent }) ≡ sheet.submit_of o → call_of e lent ≡ submit o.tenant 1 (six_numbers o)
sent_is (event.Settings x) lent o e = let z : ◌≡◌ {A = ℕ} 1 3 = cc in absurd (omega arith)
sent_is (event.Away q) lent o e = let z : ◌≡◌ {A = ℕ} 2 3 = cc in absurd (omega arith)
sent_is (event.Submit tenant count) lent o e =
    let whose : tenant ≡ o.tenant = cc in
    let one : count ≡ 1 = cc in
    let six : lent ≡ six_numbers o = cc in
    rw (whose, one, six)
sent_is event.Turn lent o e = let z : ◌≡◌ {A = ℕ} 4 3 = cc in absurd (omega arith)
sent_is event.Open lent o e = let z : ◌≡◌ {A = ℕ} 5 3 = cc in absurd (omega arith)

calls_are : (xs : List Sent) (os : List Order) → all_spell xs ≡ submits_of os → calls_of xs ≡ submit_calls os
calls_are [] [] e = refl
calls_are [] (o ∷ os) e = let z : ◌≡◌ {A = ℕ} 0 1 = cc in absurd (omega arith)
calls_are (x ∷ xs) [] e = let z : ◌≡◌ {A = ℕ} 0 1 = cc in absurd (omega arith)
calls_are (x ∷ xs) (o ∷ os) e =
    let here : spells x ≡ sheet.submit_of o = cc in
    let rest : all_spell xs ≡ submits_of os = cc in
    rw (sent_is x.event x.numbers o here, calls_are xs os rest)

tape_calls :
    (os : List Order) → AllSpell os →
    (calls_of (read_all (tape_of (submits_of os))).events ≡ submit_calls os) × ((read_all (tape_of (submits_of os))).ending ≡ ended)
tape_calls os can =
    let back = round_trip.tape_reads_back (submits_of os) (all_writable os can) in
    (calls_are (read_all (tape_of (submits_of os))).events os back.0, back.1)

-- the entry of the six numbers
entry_is : (o : Order) → entry_at (six_numbers o) 0 ≡ o.entry
unfolding entry_at table
entry_is o = refl

module _ (m : Market) (o : Order) where
  in_order : GivenInOrder (submit_rules m o.tenant 1 (six_numbers o)) (λ n. answer_to m o ≡ n) (answer_to m o ≡ 0)
  in_order = refused_in_order.submit m o.tenant 1 (six_numbers o)

  well_counted : (1 ≤ 1) × (1 ≤ 20) × (length (six_numbers o) ≡ 6 * 1)
  well_counted = (omega arith, omega arith, refl)

  never_three : answer_to m o ≡ 3 → ⊥
  never_three e = ((in_order.each 2 (omega arith)).0 e).1 well_counted

  entered : Sound m → answer_to m o ≡ 0 → waiting_in (submit_of m o.tenant 1 (six_numbers o)).market o.tenant ≡ waiting_in m o.tenant ++ (o.entry ∷ [])
  unfolding given_in listed
  entered sound e = accepted_stores.submit m o.tenant 1 (six_numbers o) sound e ∙ rw (entry_is o)

  module _ (can : CanSpell o) (accepted : m.session.accepted ≡ true) where
    is_set : m.session.accepted ≡ false → ⊥
    is_set e = true≢false (sym accepted ∙ e)

    nine : (answer_to m o ≡ 1) ↔ (o.tenant ≡ 9)
    nine =
        let by = in_order.each 1 (omega arith) in
        (λ e. omega (arith, (by.0 e).1, can.tenant), λ e. by.1 ((is_set, tt), omega arith))

    -- the order that a line can say is a new order, but for its size and its price
    new_order_lem : 1 ≤ o.entry.size.0 → ((o.entry.kind ≡ 1) × ((1 ≤ o.entry.price.0) × (o.entry.price.0 ≤ 1000000))) ⊎ ((o.entry.kind ≡ 2) × (o.entry.price.0 ≡ 0)) →
        WellFormed o.entry
    new_order_lem size kind = inl (record { kind = kind; side = can.side; life = can.life; size = (size, can.size); number = can.number })

    malformed : (WellFormed o.entry → ⊥) → OutOfRange o
    malformed ill = elim (dec_lt 0 o.entry.size.0) [
      | yes some ↦ ⊎_elim
          (λ (limit, most). inr (
            limit,
            elim (dec_lt 0 o.entry.price.0) [
              | yes least ↦ elim (dec_lt 1000000 o.entry.price.0) [
                | yes above ↦ inr above
                | no within ↦ absurd (ill (new_order_lem (omega arith) (inl (limit, (omega arith, omega arith)))))
              ]
              | no none ↦ inl (omega arith)
            ],
          ))
          (λ (market, none). absurd (ill (new_order_lem (omega arith) (inr (market, none)))))
          can.price
      | no none ↦ inl (omega arith)
    ]

    is_in_range : WellFormed o.entry → OutOfRange o → ⊥
    is_in_range (inl n) (inl none) = omega (arith, n.size)
    is_in_range (inl n) (inr (limit, far)) =
        ⊎_elim
        (λ (_, (least, most)). ⊎_elim (λ e. omega arith) (λ h. omega arith) far)
        (λ (market, _). omega arith)
        n.kind
    is_in_range (inr c) x = omega (arith, c.kind, kind_most o can)

    range_says : (answer_to m o ≡ 2) ↔ ((o.tenant ≤ 8) × OutOfRange o)
    range_says =
        let by = in_order.each 3 (omega arith) in (
          λ e. (let (none, (j, h, ill)) = by.0 e in let first : j ≡ 0 = omega arith in
              (below none.1.0, malformed (λ w. ill (rw (first, entry_is o) w)))),
          λ (few, x). by.1 ((is_set, ((λ h. omega arith), ((λ f. f well_counted), tt))), (0, omega arith, λ w. is_in_range (rw (entry_is o) at w) x)),
        )
      where
        below : (9 ≤ o.tenant → ⊥) → o.tenant ≤ 8
        below f = omega arith

pub sheet_submits : SheetSubmits
sheet_submits = record {
  calls = λ s. tape_calls (told_of s).orders (order_sheet.spells_all s);
  one_counted = never_three;
  tenant_nine = nine;
  out_of_range = range_says;
  enters = entered;
}
