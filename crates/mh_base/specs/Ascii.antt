-- Characters of ASCII (RFC 20), as their codes.
use Rattle.std.specs.Prelude.{ℕ}

-- LF
abbrev pub line_feed : ℕ
line_feed = 10

-- a space
abbrev pub space : ℕ
space = 32

-- `#`
abbrev pub number_sign : ℕ
number_sign = 35

-- `(`
abbrev pub left_parenthesis : ℕ
left_parenthesis = 40

-- `)`
abbrev pub right_parenthesis : ℕ
right_parenthesis = 41

-- `,`
abbrev pub comma : ℕ
comma = 44

-- `.`
abbrev pub full_stop : ℕ
full_stop = 46

-- `/`
abbrev pub solidus : ℕ
solidus = 47

-- `0`
abbrev pub digit_0 : ℕ
digit_0 = 48

-- `9`
abbrev pub digit_9 : ℕ
digit_9 = 57

-- `:`
abbrev pub colon : ℕ
colon = 58

-- `;`
abbrev pub semicolon : ℕ
semicolon = 59

-- `B`
abbrev pub capital_B : ℕ
capital_B = 66

-- `C`
abbrev pub capital_C : ℕ
capital_C = 67

-- `D`
abbrev pub capital_D : ℕ
capital_D = 68

-- `F`
abbrev pub capital_F : ℕ
capital_F = 70

-- `I`
abbrev pub capital_I : ℕ
capital_I = 73

-- `J`
abbrev pub capital_J : ℕ
capital_J = 74

-- `L`
abbrev pub capital_L : ℕ
capital_L = 76

-- `S`
abbrev pub capital_S : ℕ
capital_S = 83

-- `V`
abbrev pub capital_V : ℕ
capital_V = 86

-- `Z`
abbrev pub capital_Z : ℕ
capital_Z = 90

-- `[`
abbrev pub left_bracket : ℕ
left_bracket = 91

-- `\`
abbrev pub backslash : ℕ
backslash = 92

-- `_`
abbrev pub low_line : ℕ
low_line = 95

-- `a`
abbrev pub small_a : ℕ
small_a = 97

-- `b`
abbrev pub small_b : ℕ
small_b = 98

-- `c`
abbrev pub small_c : ℕ
small_c = 99

-- `f`
abbrev pub small_f : ℕ
small_f = 102

-- `h`
abbrev pub small_h : ℕ
small_h = 104

-- `i`
abbrev pub small_i : ℕ
small_i = 105

-- `j`
abbrev pub small_j : ℕ
small_j = 106

-- `n`
abbrev pub small_n : ℕ
small_n = 110

-- `o`
abbrev pub small_o : ℕ
small_o = 111

-- `s`
abbrev pub small_s : ℕ
small_s = 115

-- `u`
abbrev pub small_u : ℕ
small_u = 117

-- `x`
abbrev pub small_x : ℕ
small_x = 120

-- `z`
abbrev pub small_z : ℕ
small_z = 122

-- `{`
abbrev pub left_brace : ℕ
left_brace = 123

-- `}`
abbrev pub right_brace : ℕ
right_brace = 125
