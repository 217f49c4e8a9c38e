-- "It .. prints one line an item, newline 10. T: place, byte. C: start, letters, numbers in decimal, characters as their codes (arrays
-- and strings: count, then entries). R: start, refusal, place. Last: E and the bytes read, or M 4096 if more input follows"
use Rattle.std.specs.Prelude.{ℕ, Bool, true, false, List, [], ◌∷◌, ◌++◌, take, ℤ, pos}
use Rattle.parameters.specs.Shapes.{Tailed, no_list, list_of, Value}
use Rattle.parameters.specs.Numbers.{numbers_of}
use Rattle.commands.specs.Reading.{ToldCommand}
use Rattle.stream.specs.Items.{Itemed, nothing, text, del, command, refused_command, refused_call}
use Rattle.lines.specs.Decimals.{field, fields}

-- the count and the entries, where the parameters have any
unfoldable pub listed : Tailed → ℕ → List ℤ → List ℕ
listed no_list k list = []
listed (list_of e) k list = field (pos k) ++ fields (take k list)

abbrev newline : List ℕ
newline = 10 ∷ []

-- a letter and where the item starts
unfoldable pub opening : (letter start : ℕ) → List ℕ
opening letter start = (letter ∷ []) ++ field (pos start)

unfoldable pub text_line : (start byte : ℕ) → List ℕ
text_line start b = opening 84 start ++ field (pos b) ++ newline

-- "The lister prints a DEL that is an item as D and its place."
unfoldable pub del_line : (start : ℕ) → List ℕ
del_line start = opening 68 start ++ newline

unfoldable pub letters : (first second : ℕ) → List ℕ
letters a b = (32 ∷ []) ++ (a ∷ []) ++ (b ∷ [])

unfoldable pub command_head : (start first second : ℕ) → List ℕ
command_head start a b = opening 67 start ++ letters a b

unfoldable pub parameters_words : List Value → Tailed → ℕ → List ℤ → List ℕ
parameters_words vs t k list = fields (numbers_of vs) ++ listed t k list

unfoldable pub command_line : ToldCommand → ℕ → List ℤ → List ℕ
command_line c start list =
    command_head start c.first c.second ++ parameters_words c.values c.tail c.count list ++ newline

unfoldable pub pair : ℕ → ℕ → List ℕ
pair a b = field (pos a) ++ field (pos b)

unfoldable pub refused_line : (start refusal place : ℕ) → List ℕ
refused_line start e p = opening 82 start ++ pair e p ++ newline

-- the line of the item that starts at start; no item has none
unfoldable pub line_of : Itemed ToldCommand → ℕ → List ℤ → List ℕ
line_of nothing start list = []
line_of (text b n) start list = text_line start b
line_of (del n) start list = del_line start
line_of (command c) start list = command_line c start list
line_of (refused_command e p n kept) start list = refused_line start e p
line_of (refused_call e p) start list = []

-- "Last: E and the bytes read, or M 4096 if more input follows"
abbrev pub last_letter : Bool → ℕ
last_letter true = 77
last_letter false = 69

unfoldable pub last_line : Bool → ℕ → List ℕ
last_line more n = opening (last_letter more) n ++ newline
