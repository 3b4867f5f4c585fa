use Rattle.std.proofs.Common.{◌≡◌, ℕ, ◌+◌, ◌*◌, ◌^◌, ◌<◌, arith}
use Rattle.rules.specs.Lists.{number_of}
use Rattle.rules.specs.Rows.{side_by_side}
use Rattle.records.specs.declared.bits.Reader.{Reader}
use Rattle.records.specs.Streams.{unread, bits_unread}
use Rattle.records.proofs.PackedBits.{one_more, before_check, eight_left}
use Rattle.records.proofs.fields.Fields.read.Goals as goal

-- what stands before the unread bits, with what they write, is the number
abbrev Read : (n p : ℕ) → Reader → Type 0
Read n p r = n ≡ p * 2 ^ bits_unread r + unread r

pub returns : goal.returns
unfolding side_by_side
returns c =
    let n : ℕ = number_of (2 ^ 64) 0 c.args.words in
    let r0 = c.new-reader.result in
    let s0 : Read n 0 r0 = omega (arith, c.new-reader.ensures.all) in
    let r1 = c.take.new.self in
    let r2 = c.take-2.new.self in
    let r3 = c.take-3.new.self in
    let r4 = c.take-4.new.self in
    let r5 = c.take-5.new.self in
    let r6 = c.take-6.new.self in
    let r7 = c.take-7.new.self in
    let r8 = c.take-8.new.self in
    let r9 = c.take-9.new.self in
    let r10 = c.take-10.new.self in
    let r11 = c.take-11.new.self in
    let r12 = c.take-12.new.self in
    let r13 = c.take-13.new.self in
    let v1 : ℕ = c.take.result in
    let v2 : ℕ = c.take-2.result in
    let v3 : ℕ = c.take-3.result in
    let v4 : ℕ = c.take-4.result in
    let v5 : ℕ = c.take-5.result in
    let v6 : ℕ = c.take-6.result in
    let v7 : ℕ = c.take-7.result in
    let v8 : ℕ = c.take-8.result in
    let v9 : ℕ = c.take-9.result in
    let v10 : ℕ = c.take-10.result in
    let v11 : ℕ = c.take-11.result in
    let v12 : ℕ = c.take-12.result in
    let v13 : ℕ = c.take-13.result in
    let p0 : ℕ = 0 in
    let p1 : ℕ = p0 * 2 ^ 8 + v1 in
    let p2 : ℕ = p1 * 2 ^ 32 + v2 in
    let p3 : ℕ = p2 * 2 ^ 16 + v3 in
    let p4 : ℕ = p3 * 2 ^ 11 + v4 in
    let p5 : ℕ = p4 * 2 ^ 3 + v5 in
    let p6 : ℕ = p5 * 2 ^ 14 + v6 in
    let p7 : ℕ = p6 * 2 ^ 2 + v7 in
    let p8 : ℕ = p7 * 2 ^ 14 + v8 in
    let p9 : ℕ = p8 * 2 ^ 14 + v9 in
    let p10 : ℕ = p9 * 2 ^ 20 + v10 in
    let p11 : ℕ = p10 * 2 ^ 29 + v11 in
    let p12 : ℕ = p11 * 2 ^ 48 + v12 in
    let p13 : ℕ = p12 * 2 ^ 37 + v13 in
    let s1 : Read n p1 r1 = one_more n p0 v1 8 (bits_unread r0) (bits_unread r1) (unread r0) (unread r1) c.take.ensures.count s0 c.take.ensures.split in
    let s2 : Read n p2 r2 = one_more n p1 v2 32 (bits_unread r1) (bits_unread r2) (unread r1) (unread r2) c.take-2.ensures.count s1 c.take-2.ensures.split in
    let s3 : Read n p3 r3 = one_more n p2 v3 16 (bits_unread r2) (bits_unread r3) (unread r2) (unread r3) c.take-3.ensures.count s2 c.take-3.ensures.split in
    let s4 : Read n p4 r4 = one_more n p3 v4 11 (bits_unread r3) (bits_unread r4) (unread r3) (unread r4) c.take-4.ensures.count s3 c.take-4.ensures.split in
    let s5 : Read n p5 r5 = one_more n p4 v5 3 (bits_unread r4) (bits_unread r5) (unread r4) (unread r5) c.take-5.ensures.count s4 c.take-5.ensures.split in
    let s6 : Read n p6 r6 = one_more n p5 v6 14 (bits_unread r5) (bits_unread r6) (unread r5) (unread r6) c.take-6.ensures.count s5 c.take-6.ensures.split in
    let s7 : Read n p7 r7 = one_more n p6 v7 2 (bits_unread r6) (bits_unread r7) (unread r6) (unread r7) c.take-7.ensures.count s6 c.take-7.ensures.split in
    let s8 : Read n p8 r8 = one_more n p7 v8 14 (bits_unread r7) (bits_unread r8) (unread r7) (unread r8) c.take-8.ensures.count s7 c.take-8.ensures.split in
    let s9 : Read n p9 r9 = one_more n p8 v9 14 (bits_unread r8) (bits_unread r9) (unread r8) (unread r9) c.take-9.ensures.count s8 c.take-9.ensures.split in
    let s10 : Read n p10 r10 = one_more n p9 v10 20 (bits_unread r9) (bits_unread r10) (unread r9) (unread r10) c.take-10.ensures.count s9 c.take-10.ensures.split in
    let s11 : Read n p11 r11 = one_more n p10 v11 29 (bits_unread r10) (bits_unread r11) (unread r10) (unread r11) c.take-11.ensures.count s10 c.take-11.ensures.split in
    let s12 : Read n p12 r12 = one_more n p11 v12 48 (bits_unread r11) (bits_unread r12) (unread r11) (unread r12) c.take-12.ensures.count s11 c.take-12.ensures.split in
    let s13 : Read n p13 r13 = one_more n p12 v13 37 (bits_unread r12) (bits_unread r13) (unread r12) (unread r13) c.take-13.ensures.count s12 c.take-13.ensures.split in
    let count : bits_unread r13 ≡ 8 = omega arith in
    let small : unread r13 < 2 ^ 8 = eight_left r13.words r13.next r13.held r13.bits r13.whole r13.fits r13.few r13.within count in
    record {
      body = before_check n p13 (bits_unread r13) (unread r13) count s13 small;
      fit =
          (c.take.ensures.fits, (c.take-2.ensures.fits, (c.take-3.ensures.fits, (c.take-4.ensures.fits, (c.take-5.ensures.fits, (c.take-6.ensures.fits, (c.take-7.ensures.fits, (c.take-8.ensures.fits, (c.take-9.ensures.fits, (c.take-10.ensures.fits, (c.take-11.ensures.fits, (c.take-12.ensures.fits, (c.take-13.ensures.fits, tt)))))))))))));
    }
