-- The call open.
use Rattle.std.specs.Prelude.{Option, true, List, ℕ, ltb, Result}
use Rattle.units.specs.declared.Cents.{Cents}
use Rattle.units.specs.Units.{cents, contracts}
use Rattle.units.specs.Tests.{pick}
use Rattle.units.specs.Cases.{Case}
use Rattle.book.specs.Book.{Book, crosses}
use Rattle.opening.specs.Opening.{volume, after_opening, opening_records, opening_written}
use Rattle.price.specs.declared.Sources.{Sources}
use Rattle.price.specs.Price.{chosen}
use Rattle.tally.specs.declared.Tally.{Tally}
use Rattle.dealing.specs.Open.{tallies_opened, sources_in, choice_in, way_cases, way_refusal}
use Rattle.session.specs.OpenAnswer.{OpenAnswer, open_answer_of}
use Rattle.session.specs.OpenAnswer as answer
use Rattle.entry.specs.declared.refusal.Refusal.{Refusal}
use Rattle.session.specs.declared.Opening.{Opening}
use Rattle.session.specs.Left.{Opened}
use Rattle.session.specs.declared.Session.{Session}
use Rattle.dealing.specs.Way.{Way}
use Rattle.dealing.specs.Way.{Refused, Quiet, At}
use Rattle.session.specs.Market.{Market, Done, market_of, with_opened, with_tallies, series_of}

abbrev pub OpenDone : Type 0
OpenDone = Done OpenAnswer

-- what an open answered, beside the book, the entries and the fill records that it left
abbrev pub open_done : Opened → Book → List ℕ → List ℕ → OpenDone
open_done r book entries records = record { market = market_of r.session book entries; answer = open_answer_of r.answer; records = records }

-- the same of the session that it left and its answer
abbrev pub open_called : Session → Result Opening Refusal → Book → List ℕ → List ℕ → OpenDone
open_called s answer book entries records = open_done (record { session = s; answer = answer }) book entries records

-- the paper's values of an open
pub record Line : Type 0 where
  pub code : ℕ
  pub price : ℕ
  pub volume : ℕ

-- a refused open has 0 for price and volume
abbrev pub refused_by : ℕ → Line
refused_by code = record { code = code; price = 0; volume = 0 }

-- an opening has code 0
abbrev pub opened_at : ℕ → ℕ → Line
opened_at price volume = record { code = 0; price = price; volume = volume }

-- an open's answer in the paper's numbers
abbrev pub printed : OpenAnswer → Line
printed (answer.Refused code) = refused_by code
printed (answer.AtPrice price volume fills) = opened_at price.0 volume.0

-- how many fill records an opening wrote
abbrev pub fills_in : OpenAnswer → ℕ
fills_in (answer.Refused code) = 0
fills_in (answer.AtPrice price volume fills) = fills

-- what the opening price is chosen by, and the choice
abbrev pub sources_of : Session → Sources
sources_of s = sources_in (series_of s)

abbrev pub choice_of : Session → Option Cents
choice_of s = choice_in (series_of s)

-- the numbers in the order of checking
abbrev pub open_cases : Market → ℕ → List Case
open_cases m lent = way_cases m.session.accepted (series_of m.session) m.book lent

abbrev pub open_refusal : Market → ℕ → ℕ
open_refusal m lent = way_refusal m.session.accepted (series_of m.session) m.book lent

-- a session once open, with other tallies, and the market of it with another book
abbrev pub open_on : Session → List Tally → Session
open_on s tallies = with_tallies (with_opened s true) tallies

abbrev pub opened_to : Market → Book → List Tally → Market
opened_to m book tallies = market_of (open_on m.session tallies) book m.entries

-- If no resting buy is at or above a resting sell, the series opens with price 0 and volume 0.
unfoldable pub open_quiet : Market → List ℕ → OpenDone
open_quiet m was = record {
  market = opened_to m m.book m.session.tallies;
  answer = answer.AtPrice (cents 0) (contracts 0) 0;
  records = was;
}

-- Otherwise it opens at the price chosen.
unfoldable pub open_at : Market → List ℕ → ℕ → OpenDone
open_at m was p = record {
  market = opened_to m (after_opening m.book p) (tallies_opened m.book p m.session.tallies);
  answer = answer.AtPrice (cents p) (contracts (volume m.book p)) (opening_records m.book p);
  records = opening_written m.book p was;
}

-- a refused open returns the number alone and alters nothing
unfoldable pub open_of : Market → ℕ → List ℕ → OpenDone
open_of m lent was =
    pick (ltb 0 (open_refusal m lent))
    (record { market = m; answer = answer.Refused (open_refusal m lent); records = was })
    (pick (crosses m.book) (open_at m was (chosen (choice_of m.session))) (open_quiet m was))

-- what a market, and the fill records as lent, become by the way that an open goes
abbrev pub by_way : Market → List ℕ → Way → OpenDone
by_way m was (Refused code) = record { market = m; answer = answer.Refused code; records = was }
by_way m was Quiet = open_quiet m was
by_way m was (At price) = open_at m was price.0
