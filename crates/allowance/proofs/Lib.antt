pub mod AllowanceLaws
pub mod Lives
pub mod Origins
