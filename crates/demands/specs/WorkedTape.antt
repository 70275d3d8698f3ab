-- The worked example of the paper, byte by byte: its tape, and the whole output.
use Rattle.std.specs.Prelude.{◌≡◌, refl, ℕ}
use Rattle.std.proofs.Common.{◌∙◌, ap}
use mathlib.Core.List.{List, [], ◌∷◌, flatten}
use Rattle.units.specs.Tests.{◌and◌, ◌or◌, is_not, pick}
use Rattle.units.specs.Cases.{lower_if, higher_if}
use Rattle.units.specs.Sums.{sum_to}
use Rattle.units.specs.Picked.{same, lower, precedes}
use Rattle.units.specs.Firsts.{first_to}
use Rattle.units.specs.Leasts.{least_to, greatest_to}
use Rattle.units.specs.Places.{table}
use Rattle.numeral.specs.Number.{number_in, number_at}
use Rattle.rows.specs.Rows.{key_of, within, open_size, buy_price, sell_price, rests_for}
use Rattle.rows.specs.Passes.{highest_buy, lowest_sell, resting_within, resting_rows, free_row}
use Rattle.book.specs.Book.{best_offer, crosses, rested}
use Rattle.book.specs.Allocation.{class_of, before, earlier, left, fill}
use Rattle.book.specs.Records.{sooner_than, pos, of_traded, records, recorded, field_of, written}
use Rattle.book.specs.Trading.{of_tenant, filled, traded, after_trade, trade_records, trade_written}
use Rattle.units.specs.Decimal.{spelled, decimal}
use Rattle.lines.specs.Lines.{spaced}
use Rattle.lines.specs.Gone.{above, gone_of, gone_order, next_gone}
use Rattle.tally.specs.Tallies.{added_from}
use Rattle.entry.specs.Numbers.{one_or_two, from1to}
use Rattle.entry.specs.Settings.{series_in_range, protections_in_range, prints_in_range, in_range}
use Rattle.entry.specs.Entry.{priced, new_order, cancelling, malformed}
use Rattle.entry.specs.Quotes.{lower_offer, quotes_of}
use Rattle.tape.specs.Tape.{numbers, settings, away, entries, submit, form_in, form_of, event, reading, event_at, numbers_at, entries_of}
use Rattle.tape.specs.Whole.{read_most}
use Rattle.tape.specs.Examples.{worked_tape}
use Rattle.checks.specs.TurnDown.{not_yet, off_grid, at_strike, no_offer, unbid, no_bid, converts, as_judged, too_wide, far_buy, far_sell, far_price, might_rest, no_room, used_up, turn_down}
use Rattle.judge.specs.Bound.{buy_bound, sell_bound, bound_of}
use Rattle.judge.specs.Disposition.{beyond_drill, at_away, disposition_of}
use Rattle.judge.specs.Verdict.{verdict}
use Rattle.lanes.specs.Ring.{entry_at, slot, waiting_at, put, put_all, joined, taken}
use Rattle.lanes.specs.Rotation.{distance, served_by, served}
use Rattle.lanes.specs.Bulk.{well_counted, some_malformed}
use Rattle.price.specs.Price.{usable, midpoint, valid, first_valid, price_of}
use Rattle.dealing.specs.Deal.{quotes_on, rests, filled_of, disposition_in, book_after, trades, ordered, dealt}
use Rattle.dealing.specs.Settle.{resting_share, tallies_after}
use Rattle.dealing.specs.Open.{choice_in, way_refusal}
use Rattle.session.specs.Settings.{settings_of}
use Rattle.session.specs.Submit.{submit_refusal, submit_of}
use Rattle.session.specs.Turn.{turn_refusal, after_taking, turn_of}
use Rattle.session.specs.Open.{open_quiet, open_of}
use Rattle.replay.specs.Listing.{fill_lines, rising, gone_each, gone_lines, turn_lines, open_lines}
use Rattle.replay.specs.Replay.{settings_printed, submit_printed, turn_printed, open_printed, event_printed}
use Rattle.replay.specs.Output.{lines_of, printed_on, output_of}
use Rattle.playing.specs.Running.{at_start, Run}
use Rattle.playing.specs.RunningLaws.{prints_whole}

-- `set 0`, `open 0 0 0`, `submit 0` twice, `turn 2 0 1 0 1`, `turn 7 0 2 3 0`, `fill 1 2 3 100`, `refused 5`, `end`
abbrev pub worked_output : List ℕ
worked_output =
    115 ∷ 101 ∷ 116 ∷ 32 ∷ 48 ∷ 10
    ∷ 111 ∷ 112 ∷ 101 ∷ 110 ∷ 32 ∷ 48 ∷ 32 ∷ 48 ∷ 32 ∷ 48 ∷ 10
    ∷ 115 ∷ 117 ∷ 98 ∷ 109 ∷ 105 ∷ 116 ∷ 32 ∷ 48 ∷ 10
    ∷ 115 ∷ 117 ∷ 98 ∷ 109 ∷ 105 ∷ 116 ∷ 32 ∷ 48 ∷ 10
    ∷ 116 ∷ 117 ∷ 114 ∷ 110 ∷ 32 ∷ 50 ∷ 32 ∷ 48 ∷ 32 ∷ 49 ∷ 32 ∷ 48 ∷ 32 ∷ 49 ∷ 10
    ∷ 116 ∷ 117 ∷ 114 ∷ 110 ∷ 32 ∷ 55 ∷ 32 ∷ 48 ∷ 32 ∷ 50 ∷ 32 ∷ 51 ∷ 32 ∷ 48 ∷ 10
    ∷ 102 ∷ 105 ∷ 108 ∷ 108 ∷ 32 ∷ 49 ∷ 32 ∷ 50 ∷ 32 ∷ 51 ∷ 32 ∷ 49 ∷ 48 ∷ 48 ∷ 10
    ∷ 114 ∷ 101 ∷ 102 ∷ 117 ∷ 115 ∷ 101 ∷ 100 ∷ 32 ∷ 53 ∷ 10
    ∷ 101 ∷ 110 ∷ 100 ∷ 10
    ∷ []

-- The whole output of the worked example, computed on the definitions, with the book's 216 rows.
pub worked_output_lem : output_of worked_tape ≡ worked_output
unfolding sum_to same lower precedes first_to least_to greatest_to table key_of within open_size buy_price sell_price rests_for
    highest_buy lowest_sell resting_within resting_rows free_row best_offer crosses rested class_of before earlier left fill
    sooner_than pos of_traded records recorded field_of written of_tenant filled traded after_trade trade_records trade_written
    one_or_two from1to series_in_range protections_in_range prints_in_range in_range priced new_order cancelling malformed lower_offer quotes_of
    not_yet off_grid at_strike no_offer unbid no_bid converts as_judged too_wide far_buy far_sell far_price might_rest no_room used_up turn_down
    buy_bound sell_bound bound_of beyond_drill at_away disposition_of verdict entry_at slot waiting_at put put_all joined taken distance served_by served
    usable midpoint valid first_valid price_of settings_of well_counted some_malformed submit_refusal submit_of added_from
    quotes_on turn_refusal after_taking rests filled_of disposition_in book_after resting_share tallies_after trades ordered dealt turn_of
    choice_in way_refusal open_quiet open_of ◌and◌ ◌or◌ is_not pick lower_if higher_if
    number_in number_at numbers settings away entries submit form_in form_of event reading event_at numbers_at entries_of read_most
    spaced decimal spelled above gone_of gone_order next_gone fill_lines rising gone_each gone_lines turn_lines open_lines
    settings_printed submit_printed turn_printed open_printed event_printed lines_of printed_on output_of
worked_output_lem = refl

-- And so the program writes just that, whatever the parts in which the file gives the tape.
pub worked_run : {parts : List (List ℕ)} {out : List ℕ} → flatten parts ≡ worked_tape → Run at_start parts out → out ≡ worked_output
worked_run whole r = prints_whole r ∙ ap output_of whole ∙ worked_output_lem
