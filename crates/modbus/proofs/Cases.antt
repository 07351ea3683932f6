-- Worked frames, computed from the definitions: the check value that is published for this CRC, frames of the public documents, and one for each test of a frame.
use Rattle.std.specs.Prelude.{◌≡◌, refl, List, [], ◌∷◌, ℕ, pos, negsuc}
use Rattle.integers.specs.TwosComplement.{bits_of}
use Rattle.modbus.specs.Crc.{bit_step, bit_steps, byte_step, crc_from, crc_of, sealed}
use Rattle.modbus.specs.declared.Exception.TheVariants.{Function, Address, Value}
use Rattle.modbus.specs.declared.Request.TheVariants.{Broken, Ignored, Exception, Read}
use Rattle.modbus.specs.Request.{is_misfit, crc_right, is_broken, is_mapped, is_unknown, wrong_amount, wrong_start, request_in, exception_code, replied, silent, asked_of}
use Rattle.modbus.specs.Replies.{read_frame, write_frame, write_reply, exception_reply}

-- lists of bytes
abbrev five : ℕ → ℕ → ℕ → ℕ → ℕ → List ℕ → List ℕ
five a b c d e l = a ∷ (b ∷ (c ∷ (d ∷ (e ∷ l))))

abbrev eight : ℕ → ℕ → ℕ → ℕ → ℕ → ℕ → ℕ → ℕ → List ℕ
eight a b c d e f g h = five a b c d e (f ∷ (g ∷ (h ∷ [])))

abbrev thirteen : ℕ → ℕ → ℕ → ℕ → ℕ → ℕ → ℕ → ℕ → ℕ → ℕ → ℕ → ℕ → ℕ → List ℕ
thirteen a b c d e f g h i j k l m = five a b c d e (eight f g h i j k l m)

-- "123456789" gives hex 4B37
pub check-value : crc_of (five 0x31 0x32 0x33 0x34 0x35 (0x36 ∷ (0x37 ∷ (0x38 ∷ (0x39 ∷ []))))) ≡ 0x4B37
unfolding crc_from byte_step bit_steps bit_step
check-value = refl

-- a master's frames
pub read-of-zero : read_frame 1 0 ≡ eight 0x01 0x03 0x00 0x00 0x00 0x02 0xC4 0x0B
unfolding read_frame sealed crc_from byte_step bit_steps bit_step
read-of-zero = refl

pub write-at-one : write_frame 0x11 1 (pos 0x0102000A) ≡ thirteen 0x11 0x10 0x00 0x01 0x00 0x02 0x04 0x00 0x0A 0x01 0x02 0xC6 0xF0
unfolding write_frame bits_of sealed crc_from byte_step bit_steps bit_step
write-at-one = refl

pub write-of-minus-two : write_frame 0x11 0 (negsuc 1) ≡ thirteen 0x11 0x10 0x00 0x00 0x00 0x02 0x04 0xFF 0xFE 0xFF 0xFF 0xF7 0x3B
unfolding write_frame bits_of sealed crc_from byte_step bit_steps bit_step
write-of-minus-two = refl

-- a slave's replies
pub write-taken : write_reply 0x11 1 ≡ eight 0x11 0x10 0x00 0x01 0x00 0x02 0x12 0x98
unfolding write_reply sealed crc_from byte_step bit_steps bit_step
write-taken = refl

pub refused : exception_reply 0x0A 1 (exception_code Address) ≡ five 0x0A 0x81 0x02 0xB0 0x53 []
unfolding exception_reply sealed crc_from byte_step bit_steps bit_step
refused = refl

pub unknown-refused : exception_reply 0x11 4 (exception_code Function) ≡ five 0x11 0x84 0x01 0x83 0x05 []
unfolding exception_reply sealed crc_from byte_step bit_steps bit_step
unknown-refused = refl

pub amount-refused : exception_reply 0x11 3 (exception_code Value) ≡ five 0x11 0x83 0x03 0x00 0xF4 []
unfolding exception_reply sealed crc_from byte_step bit_steps bit_step
amount-refused = refl

-- what is asked: an unknown function, of three registers; three registers from an odd one; an odd one
pub unknown-function : asked_of 0x11 (eight 0x11 0x04 0x00 0x6B 0x00 0x03 0xC3 0x47) ≡ replied (Exception 4 Function)
unfolding asked_of is_broken is_misfit crc_right request_in is_unknown crc_from byte_step bit_steps bit_step
unknown-function = refl

pub three-registers : asked_of 0x11 (eight 0x11 0x03 0x00 0x6B 0x00 0x03 0x76 0x87) ≡ replied (Exception 3 Value)
unfolding asked_of is_broken is_misfit crc_right request_in is_unknown wrong_amount crc_from byte_step bit_steps bit_step
three-registers = refl

pub odd-register : asked_of 0x11 (thirteen 0x11 0x10 0x00 0x01 0x00 0x02 0x04 0x00 0x0A 0x01 0x02 0xC6 0xF0) ≡ replied (Exception 16 Address)
unfolding asked_of is_broken is_misfit crc_right request_in is_unknown wrong_amount wrong_start is_mapped crc_from byte_step bit_steps bit_step
odd-register = refl

-- the shown value; of another node; and with the CRC's bytes exchanged, which is 20 for another node too
pub shown-value : asked_of 0x11 (eight 0x11 0x03 0x10 0x00 0x00 0x02 0xC2 0x5B) ≡ replied (Read 0x1000)
unfolding asked_of is_broken is_misfit crc_right request_in is_unknown wrong_amount wrong_start is_mapped crc_from byte_step bit_steps bit_step
shown-value = refl

pub other-node : asked_of 0x12 (eight 0x11 0x03 0x10 0x00 0x00 0x02 0xC2 0x5B) ≡ silent Ignored
unfolding asked_of is_broken is_misfit crc_right crc_from byte_step bit_steps bit_step
other-node = refl

pub crc-exchanged : asked_of 0x12 (eight 0x11 0x03 0x10 0x00 0x00 0x02 0x5B 0xC2) ≡ silent Broken
unfolding asked_of is_broken is_misfit crc_right crc_from byte_step bit_steps bit_step
crc-exchanged = refl
