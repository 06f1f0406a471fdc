-- The state that five words hold, A_0 first: column c of a word is its bit c.
use Rattle.std.specs.Prelude.{ℕ, List, slice_index}
use Rattle.sycon.specs.Permutation.{Bits, bit}
use Rattle.sycon.specs.Steps.{Same, holding}
use Rattle.words.specs.declared.row.words.Words.{Words}

abbrev pub word_bits : List ℕ → Bits
word_bits ws j c = bit (slice_index ws j) c

abbrev pub held : List ℕ → List ℕ
held = holding word_bits

abbrev pub rows : Words → List ℕ
rows x = x.rows

-- the state that the words mean
abbrev pub meant : Words → List ℕ
meant x = held (rows x)

-- each word has the bits f
abbrev pub Rows : Words → Bits → Type 0
Rows x f = Same (word_bits (rows x)) f
