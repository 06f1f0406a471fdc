-- A message is absorbed in two goes, the label and then the text.
use Rattle.std.proofs.Common.{◌≡◌, ℕ, List}
use Rattle.sponge.specs.Blocks.{absorbed_all}
use Rattle.sponge.specs.Modes.{label_pairs, labelled, messaged, text_pairs}
use Rattle.sponge.specs.Rates.{Setting}
use Rattle.sponge.proofs.Folds.{absorbed-append}

pub messaged_both : (t : Setting) (label text s : List ℕ)
    → messaged t label text s ≡ absorbed_all t.rounds (text_pairs t.block text) (labelled t label s)
messaged_both t label text s = absorbed-append t.rounds (label_pairs t.block label) (text_pairs t.block text) s
