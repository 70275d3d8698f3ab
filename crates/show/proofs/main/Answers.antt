-- `show::main` calls each call on a sound market: a new session is sound beside any columns, and each call leaves the
-- market sound.
use Rattle.show.proofs.main.Goals as goal

pub submit-requires-2 : goal.submit-requires-2
submit-requires-2 c =
    λ a. (c.submit.ensures.sound _ (c.open_on_row.ensures.sound _ (c.settings.ensures.sound (c.new-session.ensures.sound _ _))) a).lanes

pub turn_on_row-first-requires : goal.turn_on_row-first-requires
turn_on_row-first-requires c =
    c.submit-2.ensures.sound _ (c.submit.ensures.sound _ (c.open_on_row.ensures.sound _ (c.settings.ensures.sound (c.new-session.ensures.sound _ _))))
