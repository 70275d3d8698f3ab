-- The tallies are sums over the history: turns taken, contracts bought and contracts sold of each tenant are what the
-- answers and the fill records of the calls since the last accepted settings say, the opening's included; and as much
-- is bought as sold, in every call and in every reached market.
use Rattle.std.specs.Prelude.{◌≡◌, List, ℕ, ◌+◌, ◌<◌, leb, ltb}
use Rattle.units.specs.Units.{tenants}
use Rattle.units.specs.Tests.{pick}
use Rattle.units.specs.Sums.{sum_to}
use Rattle.units.specs.Picked.{keep, same}
use Rattle.book.specs.RecordSums.{tenant_in, quantity_in}
use Rattle.entry.specs.Entry.{is_buy}
use Rattle.lanes.specs.Runs.{counts_for}
use Rattle.tally.specs.Tallies.{tally_at, only_for, bought_in_all, sold_in_all}
use Rattle.session.specs.TurnAnswer as turn_answer
use Rattle.session.specs.OpenAnswer as open_answer
use Rattle.session.specs.Market.{Market}
use Rattle.demands.specs.Runs.{Call, Answer, coded, turned, opened, step, after, since, lane_in, head_entry, Start, Reached}

-- contracts of tenant u in the first n fill records, where f is what counts of each
abbrev pub in_records : List ℕ → (ℕ → ℕ) → ℕ → ℕ → ℕ
in_records records f n u = sum_to (same (tenant_in records) u f) n

-- An opening's records are those of the buys and then those of the sells, and each side makes up the volume: record q
-- is a buy's if the contracts of those before it are fewer than the volume, else a sell's.
abbrev pub of_buys : List ℕ → ℕ → ℕ → ℕ
of_buys records volume q = keep (ltb (sum_to (quantity_in records) q) volume) (quantity_in records q)

abbrev pub of_sells : List ℕ → ℕ → ℕ → ℕ
of_sells records volume q = keep (leb volume (sum_to (quantity_in records) q)) (quantity_in records q)

-- What a call on market m says that tenant u bought, by its answer and its fill records: of an accepted order to buy,
-- the incoming tenant what was filled; of one to sell, the resting tenants what their records have; of an opening, the
-- tenants of the buys' records.
abbrev pub bought_in : Market → Answer → List ℕ → ℕ → ℕ
bought_in m (coded code) records u = 0
bought_in m (turned (turn_answer.Refused code)) records u = 0
bought_in m (turned (turn_answer.TurnedDown t code)) records u = 0
bought_in m (turned (turn_answer.Cancelled t number)) records u = 0
bought_in m (turned (turn_answer.Accepted t number filled disposition fills)) records u =
    pick (is_buy (head_entry m t)) (only_for t filled.0 u) (in_records records (quantity_in records) fills u)
bought_in m (opened (open_answer.Refused code)) records u = 0
bought_in m (opened (open_answer.AtPrice price volume fills)) records u = in_records records (of_buys records volume.0) fills u

-- and what it sold: the same with the sides changed
abbrev pub sold_in : Market → Answer → List ℕ → ℕ → ℕ
sold_in m (coded code) records u = 0
sold_in m (turned (turn_answer.Refused code)) records u = 0
sold_in m (turned (turn_answer.TurnedDown t code)) records u = 0
sold_in m (turned (turn_answer.Cancelled t number)) records u = 0
sold_in m (turned (turn_answer.Accepted t number filled disposition fills)) records u =
    pick (is_buy (head_entry m t)) (in_records records (quantity_in records) fills u) (only_for t filled.0 u)
sold_in m (opened (open_answer.Refused code)) records u = 0
sold_in m (opened (open_answer.AtPrice price volume fills)) records u = in_records records (of_sells records volume.0) fills u

-- what call c on market m counts for tenant u: turns taken, contracts bought, contracts sold
abbrev pub turns_by : ℕ → Market → Call → ℕ
turns_by u m c = counts_for u (lane_in (step m c).answer)

abbrev pub bought_by : ℕ → Market → Call → ℕ
bought_by u m c = bought_in m (step m c).answer (step m c).records u

abbrev pub sold_by : ℕ → Market → Call → ℕ
sold_by u m c = sold_in m (step m c).answer (step m c).records u

-- the sum of f over the calls of a run, added to what was there before it; it begins anew at each accepted settings
abbrev pub sum_since : (Market → Call → ℕ) → ℕ → Market → List Call → ℕ
sum_since f = since (λ m c before. before + f m c) 0

pub record Tallies : Type 0 where
  -- for every run from a start
  pub turns : (m : Market) → Start m → (cs : List Call) (u : ℕ) → u < tenants → (tally_at (after m cs).session.tallies u).turns ≡ sum_since (turns_by u) 0 m cs
  pub bought : (m : Market) → Start m → (cs : List Call) (u : ℕ) → u < tenants → (tally_at (after m cs).session.tallies u).bought ≡ sum_since (bought_by u) 0 m cs
  pub sold : (m : Market) → Start m → (cs : List Call) (u : ℕ) → u < tenants → (tally_at (after m cs).session.tallies u).sold ≡ sum_since (sold_by u) 0 m cs
  -- in every call of every run as much is bought as sold,
  pub each_call : (m : Market) → Reached m → (c : Call) → sum_to (λ u. bought_by u m c) tenants ≡ sum_to (λ u. sold_by u m c) tenants
  -- and so it is by the tallies
  pub in_all : (m : Market) → Reached m → bought_in_all m.session.tallies ≡ sold_in_all m.session.tallies
