-- Laws of the images.
--     Rows     the receiver's state as octets
--     Fields   the sender's state as octets
--     Decoding what is read of octets that may be an image
--     ReceiverImages, SenderImages   a state that was written to an image reads back
pub mod Rows
pub mod Fields
pub mod Decoding
pub mod ReceiverImages
pub mod SenderImages
