-- Colours of eight bits a channel, from triples of numbers.
use Rattle.std.specs.Prelude.{ℕ, ℤ, pos, negsuc, min, if◌then◌else◌, ◌==◌}
use Rattle.hd_num.specs.declared.vector.Vec3.{Vec3}
use Rattle.hd_num.specs.declared.vector.Rgb.{Rgb}

-- the number, but 0 below 0 and 255 above 255
abbrev pub byte_of : ℤ → ℕ
byte_of (pos n) = min n 255
byte_of (negsuc n) = 0

-- no light below 1, and full light from 1 on
abbrev pub light_of : ℤ → ℕ
light_of (pos n) = if n == 0 then 0 else 255
light_of (negsuc n) = 0

-- a colour whose channels are given by bytes
abbrev pub byte_color : Vec3 → Rgb
byte_color v = record { r = byte_of v.x; g = byte_of v.y; b = byte_of v.z }

-- a colour whose channels are lit or dark
abbrev pub light_color : Vec3 → Rgb
light_color v = record { r = light_of v.x; g = light_of v.y; b = light_of v.z }
