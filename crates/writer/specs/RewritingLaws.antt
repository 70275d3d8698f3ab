-- An event that was read fits the memory that it is written from, and is the same there.
use Rattle.std.specs.Prelude.{◌≡◌, refl, List, ℕ, ◌≤◌, length, take, Some, None, Ok, Err}
use Rattle.std.proofs.Math.Path.{sym}
use Rattle.std.proofs.Common.{ap, ◌∙◌, arith, take_at}
use Rattle.entry.specs.Numbers.{bulk_numbers}
use Rattle.tape.specs.declared.Event.{Event}
use Rattle.tape.specs.declared.Refused.{Refused}
use Rattle.tape.specs.Tape.{Reading, event, event_at, numbers_at, entries_at, entries_after, stored}
use Rattle.tape.specs.TapeLaws.{place}
use Rattle.tape.specs.Several.{stored_front, stored_long}
use Rattle.tape.specs.Depth.{most_numbers}
use Rattle.tape.specs.Leads.{read_leads}
use Rattle.tape.specs.Spelling.{entries_in, numbers_of, leads_spells, one_spelling}
use Rattle.tape.specs.Storing.{entries_back}
use Rattle.tape.specs.OneLaws.{leads_one, one_within}
use Rattle.writer.specs.declared.rewriting.Rewritten.{Rewritten}
use Rattle.writer.specs.Write.{Written, written_of, buffer_after}
use Rattle.writer.specs.WriteLaws.{used_within}
use Rattle.writer.specs.Rewriting.{Answer, written_to, answer_to, memory_after, rewritten_of, rewritten_after}

-- numbers that the memory holds are its first
module _ (vs was : List ℕ) {n : ℕ} {out : List ℕ} (fits : length vs ≤ length was) (is : out ≡ stored vs was) (long : n ≡ length vs) where
  pub first_are : take n out ≡ vs
  first_are = rw (is, long, stored_front vs was fits) (take_at vs _ (length vs) refl)

  pub first_long : n ≡ length (take n out)
  first_long = long ∙ sym (ap length first_are)

-- of the numbers that were stored the first k are those of the event's entries
pub record OfEntries (s : List ℕ) (at : ℕ) (e : Event) (k : ℕ) (out : List ℕ) : Type 0 where
  pub fits : k ≤ length out
  pub same : numbers_of e (take k out) ≡ numbers_of e (entries_at s at)
  pub within : length (numbers_of e (take k out)) ≤ most_numbers

-- so it is in memory that reaches
module _ (s : List ℕ) (at : ℕ) (lent : List ℕ) (enough : bulk_numbers ≤ length lent) {told : Reading} (is : told ≡ event_at s at) where
  -- no more than those of the longest event
  numbers_within : (e : Event) (end : ℕ) → event_at s at ≡ Ok (Some (e, end)) → length (numbers_of e (entries_at s at)) ≤ most_numbers
  numbers_within e end q =
      let l = read_leads s at e end q in
      rw (← one_spelling (numbers_at event s at) e (leads_spells _ e l)) (one_within (numbers_at event s at) (leads_one event _ e l))

  pub of_entries : {e : Event} {end k : ℕ} {out : List ℕ} → told ≡ Ok (Some (e, end)) → out ≡ entries_after s at lent → k ≡ entries_in e → OfEntries s at e k out
  unfolding entries_after
  of_entries {e} {end} q stores counts =
      let p = sym is ∙ q in
      let back = entries_back s at end lent enough e p in
      let same' = rw (← stores, ← counts) at back.1 in
      record {
        fits = rw (stores, counts) (omega (arith, back.0, stored_long (entries_at s at) lent));
        same = same';
        within = rw same' (numbers_within e end p);
      }

-- what is answered, and what the memory then holds, by what was read
module _ (s : List ℕ) (at : ℕ) (out : List ℕ) {told : Reading} (is : told ≡ event_at s at) where
  abbrev Rewrites : Answer → List ℕ → Type 0
  Rewrites r memory = (r ≡ rewritten_of s at (length out)) × (memory ≡ rewritten_after s at out)

  by_reading : {r : Reading} → told ≡ r → Rewrites (answer_to (entries_at s at) (length out) r) (memory_after (entries_at s at) out r)
  unfolding rewritten_of rewritten_after
  by_reading q = rw (← is, q) (refl, refl)

  pub rewrites_event :
      {e : Event} {end : ℕ} (ns : List ℕ) {w : Written} {memory : List ℕ} → told ≡ Ok (Some (e, end)) → numbers_of e ns ≡ numbers_of e (entries_at s at) →
      w ≡ written_of (numbers_of e ns) (length out) → memory ≡ buffer_after (numbers_of e ns) out → Rewrites (Ok (Some (written_to w end))) memory
  rewrites_event {end = end} ns q same answer bytes =
      let all = by_reading q in
      (ap (λ (x : Written). Ok (Some (written_to x end))) answer ∙ (rw same all.0), bytes ∙ rw same all.1)

  pub rewrites_refused : {r : Refused} → told ≡ Err r → Rewrites (Err r) out
  rewrites_refused q = by_reading q

  pub rewrites_end : told ≡ Ok None → Rewrites (Ok None) out
  rewrites_end q = by_reading q

-- two answers of events are the same if their parts are
rewritten_same : {v w : Written} {end last : ℕ} → ◌≡◌ {A = Answer} (Ok (Some (written_to v end))) (Ok (Some (written_to w last))) → (v ≡ w) × (end ≡ last)
rewritten_same {v} {w} {end} {last} q =
    let p : written_to v end ≡ written_to w last = cc in
    (ap (λ (x : Rewritten). x.written) p, ap (λ (x : Rewritten). x.end) p)

-- an event that is written again ends on the tape, and its bytes lie in the room
pub rewritten_within : (s : List ℕ) (at room n end : ℕ) → rewritten_of s at room ≡ Ok (Some (written_to (Ok n) end)) → (end ≤ length s) × (n ≤ room)
unfolding rewritten_of
rewritten_within s at room n end q = go (event_at s at) refl
  where
    go : (r : Reading) → event_at s at ≡ r → (end ≤ length s) × (n ≤ room)
    go (Ok (Some (e, to))) p =
        let same = rewritten_same (rw p at q) in
        (rw same.1 at (place s at e to p).1, used_within _ room n same.0)
    go (Err r) p = let z : ◌≡◌ {A = Answer} (Err r) (Ok (Some (written_to (Ok n) end))) = rw p at q in absurd (cc)
    go (Ok None) p = let z : ◌≡◌ {A = Answer} (Ok None) (Ok (Some (written_to (Ok n) end))) = rw p at q in absurd (cc)
